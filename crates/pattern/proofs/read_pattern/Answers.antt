use mathlib.Core.Path.{refl}
use native.Mathlib.Omega.{arith}
use Rattle.std.proofs.lemmas.Result.{err_from_is_err_and}
use Rattle.pattern.proofs.PatternLaws.{header_short, textures_short, palettes_short, block_refused, tracks_whole, tracks_refused}
use Rattle.pattern.proofs.read_pattern.Goals as goal

-- `pattern::read_pattern` meets its contract. Assumes nothing.
pub returns-then-n-lt12 : goal.returns-then-n-lt12
returns-then-n-lt12 c = header_short c.args.s.now c.if-n-lt12.true

pub returns-then-n-texture_end : goal.returns-then-n-texture_end
returns-then-n-texture_end c =
    let s = c.args.s.now in
    textures_short s c.read_names-textures.result c.read_names-palettes.result c.read_names-textures.ensures c.read_names-palettes.ensures c.if-n-texture_end.true

pub returns-then-n-palette_end : goal.returns-then-n-palette_end
returns-then-n-palette_end c =
    let s = c.args.s.now in
    palettes_short s c.read_names-textures.result c.read_names-palettes.result c.read_names-textures.ensures c.read_names-palettes.ensures c.if-n-palette_end.true

pub returns-in_err-block : goal.returns-in_err-block
returns-in_err-block c =
    let s = c.args.s.now in
    let p = err_from_is_err_and c.from_residual.result c.from_residual.ensures.1 in
    rw (p.1, p.2)
    (block_refused s c.read_names-textures.result c.read_names-palettes.result c.read_names-textures.ensures c.read_names-palettes.ensures c.if-n-lt12.false c.if-n-texture_end.false c.if-n-palette_end.false _ (c.in_err-block.ensures _))

pub returns-in_err-tracks : goal.returns-in_err-tracks
returns-in_err-tracks c =
    let s = c.args.s.now in
    let b = (c.in_ok-block.ensures 0).holds in
    let p = err_from_is_err_and c.from_residual-in_err-tracks.result c.from_residual-in_err-tracks.ensures.1 in
    rw (p.1, p.2)
    (tracks_refused s c.read_names-textures.result c.read_names-palettes.result c.read_names-textures.ensures c.read_names-palettes.ensures c.if-n-lt12.false c.if-n-texture_end.false c.if-n-palette_end.false _ c.in_ok-block.ensures c.max-start.result (omega arith) _ c.in_err-tracks.ensures _ refl)

pub returns : goal.returns
returns c =
    let s = c.args.s.now in
    let b = (c.in_ok-block.ensures 0).holds in
    tracks_whole s c.read_names-textures.result c.read_names-palettes.result c.read_names-textures.ensures c.read_names-palettes.ensures c.if-n-lt12.false c.if-n-texture_end.false c.if-n-palette_end.false _ c.in_ok-block.ensures c.max-start.result (omega arith) _ c.in_ok-tracks.ensures _ _ _ c.word16-frames.ensures refl
