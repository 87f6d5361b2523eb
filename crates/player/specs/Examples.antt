-- The player on small sections. Assumes nothing.
use Rattle.std.specs.Prelude.{ℕ, [], ◌∷◌, ◌≡◌, refl, replicate, take}
use Rattle.std.proofs.Math.Option.{none, some}
use Rattle.util.specs.Reader.{answered, denied}
use Rattle.matrix.specs.Matrix.{f0, f1, col4}
use Rattle.calls.specs.Evaluate.{evaluate}
use Rattle.calls.specs.Pinned.{walk}
use Rattle.calls.specs.Kinds.{section_kind}
use Rattle.calls.specs.Examples.{scroll, blinking}
use Rattle.player.specs.Player.{Mode, hold, loop, Player, pick, tick, set, new, next, step, play, matrix, choice, picture}

abbrev at : ℕ → ℕ → Mode → Player
at i frame mode = record { entry = some i; frame = frame; mode = mode }

-- the 86 bytes have twelve frames: hold stays at the last, loop returns to the first
pub to_the_end :
    (play walk new (pick 0 ∷ replicate 11 tick) ≡ at 0 11 hold)
    × (play walk new (pick 0 ∷ replicate 30 tick) ≡ at 0 11 hold)
    × (play walk new (set loop ∷ pick 0 ∷ replicate 11 tick) ≡ at 0 11 loop)
    × (play walk new (set loop ∷ pick 0 ∷ replicate 30 tick) ≡ at 0 6 loop)
unfolding evaluate next step play
to_the_end = (refl, refl, refl, refl)

-- before a pick: 17, ahead of what is wrong with the section; a mode may be set, and a pick is refused as the check is
pub nothing_picked :
    (step [] new tick ≡ denied 17)
    × (picture [] new 0 ≡ denied 17)
    × (step [] new (pick 0) ≡ denied 2)
    × (step [] new (set loop) ≡ answered (record { entry = none; frame = 0; mode = loop }))
unfolding evaluate step picture
nothing_picked = (refl, refl, refl, refl)

-- a refused pick or tick changes nothing; the same entry picked again begins anew, in the mode that was set
pub picked_again :
    (step walk (at 0 5 loop) (pick 1) ≡ denied 9)
    × (play walk (at 0 5 loop) (pick 1 ∷ []) ≡ at 0 5 loop)
    × (play (take 85 walk) (at 0 5 loop) (tick ∷ []) ≡ at 0 5 loop)
    × (play walk (at 0 5 loop) (pick 0 ∷ []) ≡ at 0 0 loop)
unfolding evaluate next step play
picked_again = (refl, refl, refl, refl)

-- a player from a longer entry, past the last frame of this one
pub past_the_last : (play walk (at 0 20 hold) (tick ∷ []) ≡ at 0 20 hold) × (play walk (at 0 20 loop) (tick ∷ []) ≡ at 0 0 loop)
unfolding evaluate next step play
past_the_last = (refl, refl)

-- and on an entry of no frames
pub no_frames : (play (scroll 84) (at 0 20 hold) (tick ∷ []) ≡ at 0 0 hold) × (play (scroll 84) (at 0 20 loop) (tick ∷ []) ≡ at 0 0 loop)
unfolding evaluate next step play
no_frames = (refl, refl)

-- a matrix of an SRT0 section, a choice of a PAT0 section; 9 and 10 as their calls have it, and 2 where the stamp is cut
pub pictures :
    (picture (scroll 84) (at 0 0 hold) 0 ≡ answered (matrix (record { c0 = col4 f1 f0 f0 f0; c1 = col4 f0 f1 f0 f0; c2 = col4 f0 f0 f1 f0; c3 = col4 f0 f0 f0 f1 })))
    × (picture (scroll 84) (at 0 0 hold) 1 ≡ denied 9)
    × (picture (blinking 0 1) (at 0 7 hold) 0 ≡ answered (choice (record { texture = 0; palette = 1 })))
    × (picture (blinking 0 1) (at 0 7 hold) 1 ≡ denied 10)
    × (picture (take 3 walk) (at 0 7 hold) 0 ≡ denied 2)
unfolding evaluate section_kind picture
pictures = (refl, refl, refl, refl, refl)
