-- An axis cut into runs of one length, and a box cut into blocks.
use Rattle.std.proofs.Common.{◌≡◌, ℕ, ◌+◌, ◌*◌, ◌/◌, ◌%◌, ◌<◌, ◌≤◌, pos, sym, ap, ◌∙◌, subst, arith}
use Rattle.std.proofs.lemmas.Int.{ints}
use Rattle.std.proofs.lemmas.Nat.{mul-add-lt, div-mul-add, mod-mul-add, div_below, mod_below}
use Rattle.sg_coord.specs.declared.coord.Coord.{Coord}
use Rattle.sg_coord.specs.Bounds.{Bounds}
use Rattle.sg_coord.specs.Coord.{Inside, count_of, row_of, point_at}
use Rattle.sg_coord.specs.Laws.{PointOfRow}
use Rattle.sg_coord.proofs.Uses.{part_is, offset_below, same_parts}
use Rattle.sg_flat.specs.declared.blocks.Blocks.{Blocks}
use Rattle.sg_coord.specs.Bounds.{bounds_of}
use Rattle.sg_flat.specs.steps.Blocks.{corner, within, block_number}

-- each axis is cut into runs of one length, from 1, without a rest
pub record IsCut (all block : Bounds) : Type 0 where
  pub same_axes : all.n ≡ block.n
  pub a_some : 1 ≤ block.a
  pub b_some : 1 ≤ block.b
  pub c_some : 1 ≤ block.c
  pub a_cut : all.a / block.a * block.a ≡ all.a
  pub b_cut : all.b / block.b * block.b ≡ all.b
  pub c_cut : all.c / block.c * block.c ≡ all.c

pub cut_of : (blocks : Blocks) → IsCut (bounds_of blocks.extents) (bounds_of blocks.block)
cut_of blocks = record {
  same_axes = blocks.same_axes;
  a_some = blocks.block.a_some;
  b_some = blocks.block.b_some;
  c_some = blocks.block.c_some;
  a_cut = blocks.a_cut;
  b_cut = blocks.b_cut;
  c_cut = blocks.c_cut;
}

-- ---- one axis
pub in_run : (x s e r : ℕ) → 1 ≤ s → e / s * s ≡ e → x < e → r < s → x / s * s + r < e
in_run x s e r some cut below small =
    let line : x / s < e / s = div_below x s (e / s) some (omega arith) in
    omega (arith, mul-add-lt (x / s) s r (e / s) line small)

pub in_run_at_start : (x s e : ℕ) → 1 ≤ s → e / s * s ≡ e → x < e → x / s * s < e
in_run_at_start x s e some cut below = let found = in_run x s e 0 some cut below some in omega arith

pub same_run : (x s r : ℕ) → r < s → (x / s * s + r) / s * s ≡ x / s * s
same_run x s r small = ap (λ n. n * s) (div-mul-add (x / s) s r small)

pub place_in_run : (x s r : ℕ) → r < s → (x / s * s + r) % s ≡ r
place_in_run x s r small = mod-mul-add (x / s) s r small

pub runs_tell : (x y s : ℕ) → 1 ≤ s → x / s * s ≡ y / s * s → x / s ≡ y / s
runs_tell x y s some same =
    let left : (x / s * s + 0) / s ≡ x / s = div-mul-add (x / s) s 0 some in
    let right : (y / s * s + 0) / s ≡ y / s = div-mul-add (y / s) s 0 some in
    let plain_left : x / s * s + 0 ≡ x / s * s = omega arith in
    let plain_right : y / s * s + 0 ≡ y / s * s = omega arith in
    sym (ap (λ n. n / s) (sym plain_left) ∙ left) ∙ ap (λ n. n / s) same ∙ ap (λ n. n / s) (sym plain_right) ∙ right

-- ---- blocks
pub corner_inside : (all block : Bounds) (at : Coord) → IsCut all block → Inside all at → Inside all (corner block at)
corner_inside all block at cut inside =
    let a_below = in_run_at_start (count_of at.a) block.a all.a cut.a_some cut.a_cut (offset_below at.a all.a inside.a_low inside.a_high) in
    let b_below = in_run_at_start (count_of at.b) block.b all.b cut.b_some cut.b_cut (offset_below at.b all.b inside.b_low inside.b_high) in
    let c_below = in_run_at_start (count_of at.c) block.c all.c cut.c_some cut.c_cut (offset_below at.c all.c inside.c_low inside.c_high) in
    record {
      same_axes = inside.same_axes;
      a_low = omega (arith, ints);
      a_high = omega (arith, ints);
      b_low = omega (arith, ints);
      b_high = omega (arith, ints);
      c_low = omega (arith, ints);
      c_high = omega (arith, ints);
    }

-- what has the parts of a corner, by their quotients, is inside
abbrev coord : ℕ → ℕ → ℕ → ℕ → Coord
coord n a b c = record { n = n; a = pos a; b = pos b; c = pos c }

pub corner_by_quotients : (all block : Bounds) (at point : Coord) (a b c : ℕ) → IsCut all block → Inside all at → a ≡ count_of at.a / block.a → b ≡ count_of at.b / block.b → c ≡ count_of at.c / block.c → point ≡ record { n = at.n; a = pos (a * block.a); b = pos (b * block.b); c = pos (c * block.c) } → Inside all point
corner_by_quotients all block at point a b c cut inside a_is b_is c_is is =
    let whole : point ≡ corner block at = is
    ∙ ap (λ (x : ℕ). coord at.n (x * block.a) (b * block.b) (c * block.c)) a_is
    ∙ ap (λ (x : ℕ). coord at.n (count_of at.a / block.a * block.a) (x * block.b) (c * block.c)) b_is
    ∙ ap (λ (x : ℕ). coord at.n (count_of at.a / block.a * block.a) (count_of at.b / block.b * block.b) (x * block.c)) c_is in
    subst (λ (x : Coord). Inside all x) (sym whole) (corner_inside all block at cut inside)

pub within_inside : (all block : Bounds) (at : Coord) → IsCut all block → Inside all at → Inside block (within block at)
within_inside all block at cut inside =
    let a_below = mod_below (count_of at.a) block.a cut.a_some in
    let b_below = mod_below (count_of at.b) block.b cut.b_some in
    let c_below = mod_below (count_of at.c) block.c cut.c_some in
    record {
      same_axes = inside.same_axes ∙ cut.same_axes;
      a_low = omega (arith, ints);
      a_high = omega (arith, ints);
      b_low = omega (arith, ints);
      b_high = omega (arith, ints);
      c_low = omega (arith, ints);
      c_high = omega (arith, ints);
    }

-- a coordinate that stands further on in the block of another, by the parts of a third
pub record IsFurther (all block : Bounds) (at by point : Coord) : Type 0 where
  pub inside : Inside all point
  pub same_block : corner block point ≡ corner block at
  pub place : within block point ≡ by

pub is_further : (all block : Bounds) (at first by point : Coord) (a a' b b' c c' : ℕ) → IsCut all block → Inside all at → Inside block by → first ≡ corner block at → (a ≡ count_of first.a) × (b ≡ count_of first.b) × (c ≡ count_of first.c) → (a' ≡ count_of by.a) × (b' ≡ count_of by.b) × (c' ≡ count_of by.c) → point ≡ record { n = at.n; a = pos (a + a'); b = pos (b + b'); c = pos (c + c') } → IsFurther all block at by point
is_further all block at first by point a a' b b' c c' cut inside by_inside is_first counts by_counts is_point =
    let a_by = offset_below by.a block.a by_inside.a_low by_inside.a_high in
    let b_by = offset_below by.b block.b by_inside.b_low by_inside.b_high in
    let c_by = offset_below by.c block.c by_inside.c_low by_inside.c_high in
    let a_first : a ≡ count_of at.a / block.a * block.a = counts.0 ∙ ap (λ (p : Coord). count_of p.a) is_first in
    let b_first : b ≡ count_of at.b / block.b * block.b = counts.1 ∙ ap (λ (p : Coord). count_of p.b) is_first in
    let c_first : c ≡ count_of at.c / block.c * block.c = counts.2 ∙ ap (λ (p : Coord). count_of p.c) is_first in
    let same_n : point.n ≡ at.n = ap (λ (p : Coord). p.n) is_point in
    let a_is : point.a ≡ pos (count_of at.a / block.a * block.a + count_of by.a) = ap (λ (p : Coord). p.a) is_point ∙ ap (λ k. pos (k + a')) a_first ∙ ap (λ k. pos (count_of at.a / block.a * block.a + k)) by_counts.0 in
    let b_is : point.b ≡ pos (count_of at.b / block.b * block.b + count_of by.b) = ap (λ (p : Coord). p.b) is_point ∙ ap (λ k. pos (k + b')) b_first ∙ ap (λ k. pos (count_of at.b / block.b * block.b + k)) by_counts.1 in
    let c_is : point.c ≡ pos (count_of at.c / block.c * block.c + count_of by.c) = ap (λ (p : Coord). p.c) is_point ∙ ap (λ k. pos (k + c')) c_first ∙ ap (λ k. pos (count_of at.c / block.c * block.c + k)) by_counts.2 in
    let a_below = in_run (count_of at.a) block.a all.a (count_of by.a) cut.a_some cut.a_cut (offset_below at.a all.a inside.a_low inside.a_high) a_by in
    let b_below = in_run (count_of at.b) block.b all.b (count_of by.b) cut.b_some cut.b_cut (offset_below at.b all.b inside.b_low inside.b_high) b_by in
    let c_below = in_run (count_of at.c) block.c all.c (count_of by.c) cut.c_some cut.c_cut (offset_below at.c all.c inside.c_low inside.c_high) c_by in
    record {
      inside = record {
        same_axes = same_n ∙ inside.same_axes;
        a_low = omega (arith, ints);
        a_high = omega (arith, ints);
        b_low = omega (arith, ints);
        b_high = omega (arith, ints);
        c_low = omega (arith, ints);
        c_high = omega (arith, ints);
      };
      same_block = same_parts (corner block point) (corner block at) same_n
          (ap (λ z. pos (count_of z / block.a * block.a)) a_is ∙ ap pos (same_run (count_of at.a) block.a (count_of by.a) a_by))
          (ap (λ z. pos (count_of z / block.b * block.b)) b_is ∙ ap pos (same_run (count_of at.b) block.b (count_of by.b) b_by))
          (ap (λ z. pos (count_of z / block.c * block.c)) c_is ∙ ap pos (same_run (count_of at.c) block.c (count_of by.c) c_by));
      place = same_parts (within block point) by (same_n ∙ inside.same_axes ∙ cut.same_axes ∙ sym by_inside.same_axes)
          (ap (λ z. pos (count_of z % block.a)) a_is ∙ ap pos (place_in_run (count_of at.a) block.a (count_of by.a) a_by) ∙ sym (part_is by.a by_inside.a_low))
          (ap (λ z. pos (count_of z % block.b)) b_is ∙ ap pos (place_in_run (count_of at.b) block.b (count_of by.b) b_by) ∙ sym (part_is by.b by_inside.b_low))
          (ap (λ z. pos (count_of z % block.c)) c_is ∙ ap pos (place_in_run (count_of at.c) block.c (count_of by.c) c_by) ∙ sym (part_is by.c by_inside.c_low));
    }

-- two coordinates are in blocks of one number exactly when they are in the same run of each axis
pub record InSameRuns (block : Bounds) (x y : Coord) : Type 0 where
  pub a_run : count_of x.a / block.a ≡ count_of y.a / block.a
  pub b_run : count_of x.b / block.b ≡ count_of y.b / block.b
  pub c_run : count_of x.c / block.c ≡ count_of y.c / block.c

pub same_block_from_runs : (all block : Bounds) (x y : Coord) → x.n ≡ y.n → InSameRuns block x y → block_number all block x ≡ block_number all block y
same_block_from_runs all block x y same_n same =
    ap (row_of all) (same_parts (corner block x) (corner block y) same_n
    (ap (λ k. pos (k * block.a)) same.a_run) (ap (λ k. pos (k * block.b)) same.b_run) (ap (λ k. pos (k * block.c)) same.c_run))

pub same_runs_from_block : (all block : Bounds) (x y : Coord) → PointOfRow → IsCut all block → Inside all x → Inside all y → block_number all block x ≡ block_number all block y → InSameRuns block x y
same_runs_from_block all block x y point_of_row cut x_inside y_inside same =
    let corners : corner block x ≡ corner block y =
    sym (point_of_row all (corner block x) (corner_inside all block x cut x_inside)) ∙ ap (point_at all) same ∙ point_of_row all (corner block y) (corner_inside all block y cut y_inside) in
    record {
      a_run = runs_tell (count_of x.a) (count_of y.a) block.a cut.a_some (ap (λ (at : Coord). count_of at.a) corners);
      b_run = runs_tell (count_of x.b) (count_of y.b) block.b cut.b_some (ap (λ (at : Coord). count_of at.b) corners);
      c_run = runs_tell (count_of x.c) (count_of y.c) block.c cut.c_some (ap (λ (at : Coord). count_of at.c) corners);
    }
