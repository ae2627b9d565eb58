-- The own writes that workers keep are by uses of the code.
use Rattle.std.proofs.Common.{◌≡◌, ℕ, Bool, true, false, ◌&&◌, ◌==◌, inl, inr, ◌⊎◌, List, [], ◌∷◌, Option, Some, None, sym, ap, ◌∙◌, subst}
use Rattle.std.specs.Prelude.{Contains, find, reverse}
use Rattle.std.specs.List.{flat_map}
use Rattle.std.proofs.lemmas.Bool.{cases_Bool, cond-true, cond-false, and_parts, eqb-true}
use Rattle.std.proofs.lemmas.Option.{same_Some}
use Rattle.sg_words.proofs.Uses.{contains_none, contains_cases}
use Rattle.sg_flat.specs.declared.effects.Way.TheVariants.{Own}
use Rattle.sg_ir.specs.Runs.{is_own}
use Rattle.sg_ir.specs.Apt.{Use, Writes}
use Rattle.sg_exec.specs.declared.lanes.cell_write.CellWrite.{CellWrite}
use Rattle.sg_exec.specs.declared.results.shared.Owned.{Owned}
use Rattle.sg_exec.specs.steps.Written.{is_own_to, own_write}
use Rattle.sg_exec.specs.steps.Racing.{listed, last_own}
use Rattle.sg_exec.proofs.PassesLanded.{from_flat}

find_true : {X : Type 0} (test : X → Bool) (xs : List X) (x : X) → find test xs ≡ Some x → test x ≡ true
find_true test [] x is = absurd (cc)
find_true {X} test (first ∷ xs) x is = by (find_true test xs x) (cases_Bool (test first))
  where
    by : (find test xs ≡ Some x → test x ≡ true) → (test first ≡ true) ⊎ (test first ≡ false) → test x ≡ true
    by later (inl passes) = ap test (same_Some x first (sym is ∙ cond-true (test first) (Some first) (find test xs) passes)) ∙ passes
    by later (inr fails) = later (sym (cond-false (test first) (Some first) (find test xs) fails) ∙ is)

from_listed : (found : Option CellWrite) (write : CellWrite) → Contains (listed found) write → found ≡ Some write
from_listed None write has = absurd (contains_none write has)
from_listed (Some first) write has = by (contains_cases write first [] has)
  where
    by : (first ≡ write) ⊎ Contains [] write → Some first ≡ Some write
    by (inl same) = ap (λ (w : CellWrite). Some w) same
    by (inr none) = absurd (contains_none write none)

-- what is kept of turns goes into own-written fields
pub kept_used : (uses : List Use) (owned : List Owned) (turns : List (List CellWrite)) → ((own : Owned) → Contains owned own → Contains uses (Writes own.layout own.field Own))
    → (write : CellWrite) → Contains (flat_map (last_own owned) turns) write → Contains uses (Writes write.layout write.place Own)
kept_used uses owned turns each write has =
    let turn = from_flat (last_own owned) turns write has in
    let own = from_flat (λ (it : Owned). listed (own_write it.layout it.field turn.0)) owned write turn.1.1 in
    let passes : is_own_to own.0.layout own.0.field write ≡ true =
    find_true (is_own_to own.0.layout own.0.field) (reverse turn.0) write (from_listed (own_write own.0.layout own.0.field turn.0) write own.1.1) in
    let both = and_parts (write.layout == own.0.layout) (write.place == own.0.field) (and_parts (is_own write.way) ((write.layout == own.0.layout) && (write.place == own.0.field)) passes).1 in
    subst (λ (l : ℕ). Contains uses (Writes l write.place Own)) (sym (eqb-true write.layout own.0.layout both.0))
    (subst (λ (f : ℕ). Contains uses (Writes own.0.layout f Own)) (sym (eqb-true write.place own.0.field both.1)) (each own.0 own.1.0))
