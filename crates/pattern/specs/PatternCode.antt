-- What the code of lib.rt answers: where the lists of an entry stand. Assumes nothing.
use Rattle.std.specs.Prelude.{ℕ, ◌+◌, ◌*◌, ◌^◌, ◌≤◌, ◌<◌, List, [], ◌≡◌, length, drop, Option as CodeOption, Some, None}
use Rattle.std.proofs.Math.Option.{Option, none, some}
use Rattle.util.specs.View.{word_at, view}
use Rattle.util.specs.Reader.{accepted, run, each}
use Rattle.util.specs.Sums.{total}
use Rattle.pattern.specs.declared.ItemList.{ItemList}
use Rattle.pattern.specs.declared.Pattern.{Pattern as Known}
use Rattle.pattern.specs.declared.PatternKeyframe.{PatternKeyframe}
use Rattle.info_block.specs.InfoBlockCode.{block_at, WholeBlock}
use Rattle.pattern.specs.Pattern.{Key, key_count, key_of, Names, Pattern, track, pattern, choice}

abbrev pub key_means : PatternKeyframe → Key
key_means k = record { frame = k.frame; texture = k.texture_idx.0; palette = k.palette_idx.0 }

abbrev pub names_mean : ItemList → Names
names_mean n = record { place = n.place; count = n.count }

-- the keys that stand there
abbrev pub keys_at : List ℕ → ItemList → List Key
keys_at s l = view 4 key_of l.count (drop l.place s)

-- a list whose offset, a word of two bytes, stands at p, and whose count, a word of n bytes, at c
pub record ListedAt (s : List ℕ) (p n c : ℕ) (l : ItemList) : Type 0 where
  pub place : l.place ≡ word_at 2 s p
  pub count : l.count ≡ word_at n s c
  pub near : l.place < 65536
  pub few : l.count < 256 ^ n

-- an accepted entry: what is held of it, and where the code says that it stands
pub record WholePattern (s : List ℕ) (a : Known) : Type 0 where
  pub held : Pattern
  pub reads : run pattern s 0 ≡ accepted a.reach held
  pub frames : held.frames ≡ a.frames
  pub textures : held.textures ≡ names_mean a.textures
  pub textures_inside : a.textures.place + 16 * a.textures.count ≤ length s
  pub palettes : held.palettes ≡ names_mean a.palettes
  pub palettes_inside : a.palettes.place + 16 * a.palettes.count ≤ length s
  pub block : WholeBlock s 12 8 a.block
  pub names : held.names ≡ (block_at s 8 a.block).names
  pub tracks : (m : ℕ) × (run (each (track a.textures.count a.palettes.count) (block_at s 8 a.block).datums) s 0 ≡ accepted m held.tracks)
  pub samples : total key_count held.tracks ≡ a.samples
  pub inside : a.reach ≤ length s

-- ---- what a name's track chooses at a frame, from its keys

-- the key that holds at a frame: there are keys, and it is their choice
pub record Holds (keys : Option (List Key)) (frame : ℕ) (k : PatternKeyframe) : Type 0 where
  pub all : List Key
  pub there : keys ≡ some all
  pub some_key : 1 ≤ length all
  pub chosen : (default : Key) → key_means k ≡ choice all default frame

-- .. or the track has no keys; or there is no track of the name
abbrev pub KeyIs : Option (List Key) → ℕ → CodeOption (CodeOption PatternKeyframe) → Type 0
KeyIs keys frame (Some (Some k)) = Holds keys frame k
KeyIs keys frame (Some None) = keys ≡ some []
KeyIs keys frame None = keys ≡ none
