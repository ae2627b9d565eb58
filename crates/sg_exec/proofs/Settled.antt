-- What a slice wants leaves each layout as it is that isn't written.
use Rattle.std.proofs.Common.{◌≡◌, ℕ, zero, suc, ◌+◌, Bool, true, false, ◌==◌, cond, List, [], ◌∷◌, ◌++◌, map, refl, sym, ap, ◌∙◌, subst, arith}
use Rattle.std.specs.Prelude.{filter, slice_get, Contains}
use Rattle.std.proofs.lemmas.Bool.{eqb-true}
use Rattle.std.proofs.lemmas.List.{append-nil}
use Rattle.std.proofs.lemmas.List.Elements.{filter-append}
use Rattle.sg_words.proofs.Uses.{contains_head, contains_rest}
use Rattle.sg_coord.specs.declared.coord.Coord.{Coord}
use Rattle.sg_layout.specs.declared.shape.Shape.{Shape}
use Rattle.sg_layout.specs.Closure.{closure}
use Rattle.sg_flat.specs.declared.effects.Domain.{Domain}
use Rattle.sg_flat.specs.declared.effects.Write.{Write}
use Rattle.sg_flat.specs.declared.effects.Turn.{Turn}
use Rattle.sg_flat.specs.declared.state.FlatLayout.{FlatLayout}
use Rattle.sg_flat.specs.State.{AreFlatLayouts}
use Rattle.sg_flat.specs.Domain.{active_in}
use Rattle.sg_flat.specs.Effects.{writes_of, written_in}
use Rattle.sg_ir.specs.Runs.{CodeWrite, CodeWant}
use Rattle.sg_ir.specs.Apt.{may_activate}
use Rattle.sg_exec.specs.Running.{coord_of_write, wants_left, write_at, located}
use Rattle.sg_exec.specs.steps.Wants.{bare, acts, reached_layouts}
use Rattle.sg_exec.proofs.Sliced.{wants_of}

-- the write is into this layout
abbrev pub is_in : ℕ → Write → Bool
is_in layout write = write.layout == layout

module _ (domain : Domain) (at : Coord) (layout : ℕ) where
  -- if none of the writes is into the layout, none of what is wanted is
  pub wants_none : (wants : List CodeWant) (writes : List CodeWrite) → ((write : CodeWrite) → Contains writes write → write.layout ≡ layout → ⊥)
      → filter (is_in layout) (wants_of (acts domain) (located domain at wants writes)) ≡ []
  wants_none wants [] none = refl
  wants_none wants (write ∷ writes) none = by_act (acts domain there) (wants_none (wants_left (may_activate domain write) wants) writes (λ w has. none w (contains_rest w write writes has)))
    where
      there : Write
      there = write_at write (coord_of_write (may_activate domain write) wants at)

      more : List Write
      more = filter (acts domain) (located domain at (wants_left (may_activate domain write) wants) writes)

      by_layout : (test : Bool) → (write.layout == layout) ≡ test → filter (is_in layout) (map bare more) ≡ [] → cond test (bare there ∷ filter (is_in layout) (map bare more)) (filter (is_in layout) (map bare more)) ≡ []
      by_layout true is e = absurd (none write (contains_head write write writes refl) (eqb-true write.layout layout is))
      by_layout false is e = e

      by_act : (act : Bool) → filter (is_in layout) (map bare more) ≡ [] → filter (is_in layout) (map bare (cond act (there ∷ more) more)) ≡ []
      by_act true e = by_layout (write.layout == layout) refl e
      by_act false e = e

-- turns that don't write into a layout
pub none_written : (layout : ℕ) (turn : Coord → Turn) (points : List Coord) → ((at : Coord) → Contains points at → filter (is_in layout) (turn at).writes ≡ []) → written_in layout (map turn points) ≡ []
none_written layout turn points each = ap (map (λ (write : Write). write.at)) (filtered points each)
  where
    filtered : (points : List Coord) → ((at : Coord) → Contains points at → filter (is_in layout) (turn at).writes ≡ []) → filter (is_in layout) (writes_of (map turn points)) ≡ []
    filtered [] each = refl
    filtered (at ∷ points) each =
        filter-append (is_in layout) (turn at).writes (writes_of (map turn points))
        ∙ (ap (λ (ws : List Write). ws ++ filter (is_in layout) (writes_of (map turn points))) (each at (contains_head at at points refl))
        ∙ filtered points (λ x has. each x (contains_rest x at points has)))

-- a layout into which nothing is written has the same active coordinates
pub unwritten_same : (k : ℕ) (shapes : List Shape) (flats : List FlatLayout) (turns : List Turn) (i : ℕ) → AreFlatLayouts shapes flats → written_in (k + i) turns ≡ []
    → active_in (slice_get (reached_layouts k shapes flats turns) i) ≡ active_in (slice_get flats i)
unwritten_same k [] [] turns i fine none = refl
unwritten_same k [] (flat ∷ flats) turns i fine none = absurd fine
unwritten_same k (shape ∷ shapes) [] turns i fine none = absurd fine
unwritten_same k (shape ∷ shapes) (flat ∷ flats) turns zero fine none =
    let same : k + 0 ≡ k = omega arith in
    ap (λ (coords : List Coord). closure shape (flat.active ++ coords)) (subst (λ (n : ℕ). written_in n turns ≡ []) same none) ∙ (ap (closure shape) (append-nil flat.active) ∙ sym fine.0.closed)
unwritten_same k (shape ∷ shapes) (flat ∷ flats) turns (suc i) fine none =
    let same : k + suc i ≡ suc k + i = omega arith in
    unwritten_same (suc k) shapes flats turns i fine.1 (subst (λ (n : ℕ). written_in n turns ≡ []) same none)
