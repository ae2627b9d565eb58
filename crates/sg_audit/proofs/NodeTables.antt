-- A table takes a link, and lets a number go.
use Rattle.std.proofs.Common.{◌≡◌, ℕ, zero, suc, ◌+◌, ◌-◌, ◌*◌, ◌^◌, ◌<◌, ◌≤◌, ◌==◌, min, Bool, true, false, not, cond, ◌||◌, nat_lt, List, ◌∷◌, length, Option, Some, None, refl, sym, ap, ◌∙◌, subst, arith, inl, inr}
use Rattle.std.specs.Prelude.{filter, All, slice_index, slice_index_or, slice_set}
use Rattle.std.specs.List.{list_any}
use Rattle.std.specs.BTreeSet.{contains}
use Rattle.std.specs.BTreeMap.{is_at}
use Rattle.std.specs.Ordering.{nat_cmp}
use Rattle.std.proofs.lemmas.Bool.{and_parts, cond-true, cond-false, cases_eq, eqb-true, eq-eqb, ne_eqb}
use Rattle.std.proofs.lemmas.List.{length-set, get_or-set_same, get_or-set_other}
use Rattle.std.proofs.lemmas.List.Elements.{All-cons, All-filter}
use Rattle.sg_audit.specs.declared.table.Standing.{Standing}
use Rattle.sg_audit.specs.declared.table.NodeLink.{NodeLink}
use Rattle.sg_audit.specs.declared.table.NodeTable.{NodeTable}
use Rattle.sg_audit.specs.steps.Tables.{has_this, stands_in, is_in, standing_of, IsWithin, HasLinks, slot_number}
use Rattle.sg_audit.proofs.NodeLinks.{rest_of, one_if, counts_one, counts_none, count_more, any_count, none_count, few_count, once_rest, standing_gone, standing_kept, count_rest, length_rest}
use Rattle.sg_audit.proofs.SlotNumbers.{at_slot}

-- a table that differs from one by a link, or by the lack of it
pub record IsWritten (old new : NodeTable) (number : ℕ) (place : Option Standing) (parent written total : ℕ) : Type 0 where
  pub room : new.room ≡ old.room
  pub standing : new.standing ≡ slice_set old.standing number place
  pub children : new.children ≡ slice_set old.children parent written
  pub count : new.count ≡ total

pub lengths : (P : ℕ → ℕ → Type 0) (old new : NodeTable) (number : ℕ) (place : Option Standing) (parent children count : ℕ) → IsWritten old new number place parent children count
    → P (length old.standing) (length old.children) → P (length new.standing) (length new.children)
lengths P old new number place parent children count is p =
    subst (λ n. P (length new.standing) n) (sym (ap length is.children ∙ length-set old.children parent children))
    (subst (λ n. P n (length old.children)) (sym (ap length is.standing ∙ length-set old.standing number place)) p)

within_again : (old new : NodeTable) (number : ℕ) (place : Option Standing) (parent children count slots : ℕ) (links : List NodeLink) → IsWritten old new number place parent children count
    → All (IsWithin (length old.standing) slots (length old.children)) links → All (IsWithin (length new.standing) slots (length new.children)) links
within_again old new number place parent children count slots links is all = lengths (λ s c. All (IsWithin s slots c) links) old new number place parent children count is all

-- ---- one more

more_single : (links : List NodeLink) (link : NodeLink) (parent slot : ℕ) → list_any (stands_in link.standing.parent link.standing.slot) links ≡ false → length (filter (stands_in parent slot) links) ≤ 1
    → length (filter (stands_in parent slot) (link ∷ links)) ≤ 1
more_single links link parent slot free few = by_case (stands_in parent slot link) refl where
  by_case : (b : Bool) → stands_in parent slot link ≡ b → length (filter (stands_in parent slot) (link ∷ links)) ≤ 1
  by_case true is =
      let parts = and_parts (link.standing.parent == parent) (link.standing.slot == slot) is in
      let none : list_any (stands_in parent slot) links ≡ false =
      subst (λ s. list_any (stands_in parent s) links ≡ false) (eqb-true link.standing.slot slot parts.1) (subst (λ p. list_any (stands_in p link.standing.slot) links ≡ false) (eqb-true link.standing.parent parent parts.0) free) in
      omega (arith, count_more (stands_in parent slot) link links, none_count (stands_in parent slot) links none, counts_one (stands_in parent slot link) is)
  by_case false is = omega (arith, count_more (stands_in parent slot) link links, few, counts_none (stands_in parent slot link) is)

pub has_more : (old new : NodeTable) (slots : ℕ) (links : List NodeLink) (link : NodeLink)
    → IsWritten old new link.number (Some link.standing) link.standing.parent (min (slice_index old.children link.standing.parent + 1) (2 ^ 32 - 1)) (min (old.count + 1) (2 ^ 32 - 1))
    → ((q : ℕ) → contains nat_cmp new.taken q ≡ cond (is_at (nat_cmp (slot_number link.standing slots)) q) true (contains nat_cmp old.taken q))
    → HasLinks old slots links → link.number < length old.standing → link.standing.slot < slots → link.standing.parent < length old.children
    → list_any (has_this link.number) links ≡ false → list_any (stands_in link.standing.parent link.standing.slot) links ≡ false → old.count + 1 < 2 ^ 32
    → HasLinks new slots (link ∷ links)
has_more old new slots links link is taken has place slot_in parent_in unheld free few = record {
  once = (unheld, has.once);
  single = λ parent slot. more_single links link parent slot free (has.single parent slot);
  within = All-cons (IsWithin (length new.standing) slots (length new.children)) link links
      (lengths (λ s c. IsWithin s slots c link) old new link.number _ link.standing.parent _ _ is (record { number = place; slot = slot_in; parent = parent_in }))
      (within_again old new link.number _ link.standing.parent _ _ slots links is has.within);
  stands = λ number. elim (cases_eq number link.number) [
    | inl same ↦
        ap (λ (l : List (Option Standing)). slice_index_or l number None) is.standing
        ∙ ap (λ n. slice_index_or (slice_set old.standing link.number (Some link.standing)) n None) same
        ∙ get_or-set_same old.standing link.number (Some link.standing) None place
        ∙ sym (cond-true (link.number == number) (Some link.standing) (standing_of links number) (eq-eqb link.number number (sym same)))
    | inr apart ↦
        ap (λ (l : List (Option Standing)). slice_index_or l number None) is.standing
        ∙ get_or-set_other old.standing link.number number (Some link.standing) None apart
        ∙ has.stands number
        ∙ sym (cond-false (link.number == number) (Some link.standing) (standing_of links number) (ne_eqb link.number number (λ e. apart (sym e))))
  ];
  taken = λ parent slot below.
      taken (parent * slots + slot)
      ∙ ap (λ b. cond b true (contains nat_cmp old.taken (parent * slots + slot))) (at_slot link slots parent slot slot_in below)
      ∙ either (stands_in parent slot link) (contains nat_cmp old.taken (parent * slots + slot))
      ∙ ap (λ b. stands_in parent slot link || b) (has.taken parent slot below);
  children = λ parent. elim (cases_eq parent link.standing.parent) [
    | inl same ↦
        let one : is_in parent link ≡ true = eq-eqb link.standing.parent parent (sym same) in
        let before : slice_index old.children link.standing.parent ≡ length (filter (is_in link.standing.parent) links) = has.children link.standing.parent in
        let here : slice_index new.children link.standing.parent ≡ min (slice_index old.children link.standing.parent + 1) (2 ^ 32 - 1) =
        ap (λ (l : List ℕ). slice_index l link.standing.parent) is.children ∙ get_or-set_same old.children link.standing.parent _ 0 parent_in in
        let there : slice_index new.children parent ≡ slice_index new.children link.standing.parent = ap (slice_index new.children) same in
        let again : length (filter (is_in parent) links) ≡ length (filter (is_in link.standing.parent) links) = ap (λ p. length (filter (is_in p) links)) same in
        omega (arith, there, here, before, again, count_more (is_in parent) link links, counts_one (is_in parent link) one, few_count (is_in link.standing.parent) links, has.count, few)
    | inr apart ↦
        let no : is_in parent link ≡ false = ne_eqb link.standing.parent parent (λ e. apart (sym e)) in
        let here : slice_index new.children parent ≡ slice_index old.children parent =
        ap (λ (l : List ℕ). slice_index l parent) is.children ∙ get_or-set_other old.children link.standing.parent parent _ 0 apart in
        omega (arith, here, has.children parent, count_more (is_in parent) link links, counts_none (is_in parent link) no)
  ];
  count = omega (arith, is.count, has.count, few);
}
  where
    either : (a b : Bool) → cond a true b ≡ (a || b)
    either true b = refl
    either false b = refl

-- ---- one less

pub has_less : (old new : NodeTable) (slots : ℕ) (links : List NodeLink) (number : ℕ) (standing : Standing)
    → IsWritten old new number None standing.parent (slice_index old.children standing.parent - 1) (old.count - 1)
    → ((q : ℕ) → contains nat_cmp new.taken q ≡ cond (is_at (nat_cmp (slot_number standing slots)) q) false (contains nat_cmp old.taken q))
    → HasLinks old slots links → standing_of links number ≡ Some standing → number < length old.standing → standing.slot < slots → standing.parent < length old.children
    → HasLinks new slots (rest_of number links)
has_less old new slots links number standing is taken has stands place slot_in parent_in =
    let link : NodeLink = record { number = number; standing = standing } in
    record {
      once = once_rest links number has.once;
      single = λ parent slot. omega (arith, count_rest (stands_in parent slot) links number standing has.once stands, has.single parent slot);
      within = All-filter (λ (l : NodeLink). not (has_this number l)) (IsWithin (length new.standing) slots (length new.children)) links
          (within_again old new number _ standing.parent _ _ slots links is has.within);
      stands = λ other. elim (cases_eq other number) [
        | inl same ↦
            ap (λ (l : List (Option Standing)). slice_index_or l other None) is.standing
            ∙ ap (λ n. slice_index_or (slice_set old.standing number None) n None) same
            ∙ get_or-set_same old.standing number None None place
            ∙ sym (standing_gone links number) ∙ ap (standing_of (rest_of number links)) (sym same)
        | inr apart ↦
            ap (λ (l : List (Option Standing)). slice_index_or l other None) is.standing
            ∙ get_or-set_other old.standing number other None None apart
            ∙ has.stands other
            ∙ sym (standing_kept links number other apart)
      ];
      taken = λ parent slot below.
          taken (parent * slots + slot)
          ∙ ap (λ b. cond b false (contains nat_cmp old.taken (parent * slots + slot))) (at_slot link slots parent slot slot_in below)
          ∙ ap (λ b. cond (stands_in parent slot link) false b) (has.taken parent slot below)
          ∙ but_one (stands_in parent slot link) (list_any (stands_in parent slot) links) (length (filter (stands_in parent slot) links)) (length (filter (stands_in parent slot) (rest_of number links)))
          (any_count (stands_in parent slot) links) (count_rest (stands_in parent slot) links number standing has.once stands) (has.single parent slot)
          ∙ sym (any_count (stands_in parent slot) (rest_of number links));
      children = λ parent. elim (cases_eq parent standing.parent) [
        | inl same ↦
            let one : is_in parent link ≡ true = eq-eqb standing.parent parent (sym same) in
            let here : slice_index new.children standing.parent ≡ slice_index old.children standing.parent - 1 =
            ap (λ (l : List ℕ). slice_index l standing.parent) is.children ∙ get_or-set_same old.children standing.parent _ 0 parent_in in
            let there : slice_index new.children parent ≡ slice_index new.children standing.parent = ap (slice_index new.children) same in
            let before : slice_index old.children parent ≡ slice_index old.children standing.parent = ap (slice_index old.children) same in
            omega (arith, there, here, before, has.children parent, count_rest (is_in parent) links number standing has.once stands, counts_one (is_in parent link) one)
        | inr apart ↦
            let no : is_in parent link ≡ false = ne_eqb standing.parent parent (λ e. apart (sym e)) in
            let here : slice_index new.children parent ≡ slice_index old.children parent =
            ap (λ (l : List ℕ). slice_index l parent) is.children ∙ get_or-set_other old.children standing.parent parent _ 0 apart in
            omega (arith, here, has.children parent, count_rest (is_in parent) links number standing has.once stands, counts_none (is_in parent link) no)
      ];
      count = omega (arith, is.count, has.count, length_rest links number standing has.once stands);
    }
  where
    but_one : (there any : Bool) (all left : ℕ) → any ≡ nat_lt 0 all → all ≡ one_if there + left → all ≤ 1 → cond there false any ≡ nat_lt 0 left
    but_one true any all zero is count few = refl
    but_one true any all (suc left) is count few = absurd (let one : one_if true ≡ 1 = refl in omega (arith, count, few, one))
    but_one false any all left is count few =
        let same : all ≡ left = (let none : one_if false ≡ 0 = refl in omega (arith, count, none)) in
        is ∙ ap (nat_lt 0) same
