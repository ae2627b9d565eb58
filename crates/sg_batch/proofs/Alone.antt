-- Whether no layout that one kernel writes is touched by another, layout after layout, and what the text of a kernel touches.
use Rattle.std.proofs.Common.{◌≡◌, ℕ, ◌+◌, ◌<◌, ◌≤◌, Bool, true, false, not, ◌&&◌, ◌==◌, inl, inr, ◌⊎◌, List, [], ◌++◌, Option, Some, None, sym, ap, ◌∙◌, subst, arith, eq-eqb}
use Rattle.std.specs.Prelude.{Contains}
use Rattle.std.specs.List.{flat_map}
use Rattle.std.proofs.lemmas.Bool.{cases_Bool, cases_lt, both_ways, eqb-true}
use Rattle.std.proofs.lemmas.List.Elements.{Contains-append_left, Contains-append_right, Contains-append_cases}
use Rattle.sg_words.proofs.Uses.{contains_none, contains_head, contains_cases}
use Rattle.sg_coord.specs.declared.coord.Coord.{Coord}
use Rattle.sg_flat.specs.declared.effects.Domain.{Domain}
use Rattle.sg_flat.specs.declared.effects.Domain.TheVariants.{Walk, Range}
use Rattle.sg_ir.specs.declared.code.Inst.{Inst}
use Rattle.sg_ir.specs.declared.code.KernelCode.{KernelCode}
use Rattle.sg_ir.specs.Touches.{layouts_written, layouts_touched, layouts_walked, written_by, touched_by, is_among}
use Rattle.sg_exec.proofs.Uses.{among_from, from_among}
use Rattle.sg_batch.specs.Independent.{leaves_alone, are_independent}
use Rattle.sg_batch.specs.steps.Next.{IsNext}
use Rattle.sg_batch.proofs.Members.{all_from, fails_at}

module _ (one other : KernelCode) where
  abbrev passes : ℕ → Bool
  passes layout = not (is_among (layouts_touched other) layout)

  -- no layout below a number is written by the one and touched by the other
  abbrev pub AloneBelow : ℕ → Type 0
  AloneBelow from = (layout : ℕ) → Contains (layouts_written one) layout → layout < from → Contains (layouts_touched other) layout → ⊥

  pub alone_first : AloneBelow 0
  alone_first layout has low touched = absurd (omega (arith, low))

  -- one layout more
  pub alone_next : (from next : ℕ) → IsNext (layouts_written one) from (Some next) → (Contains (layouts_touched other) next → ⊥) → AloneBelow from → AloneBelow (next + 1)
  alone_next from next is none before layout has low touched = by (cases_lt layout from)
    where
      by : (layout < from) ⊎ (from ≤ layout) → ⊥
      by (inl under) = before layout has under touched
      by (inr over) =
          let least = is.1.1 layout has over in
          let same : layout ≡ next = omega (arith, least, low) in
          none (subst (λ (n : ℕ). Contains (layouts_touched other) n) same touched)

  -- none is left
  pub alone_end : (from : ℕ) → IsNext (layouts_written one) from None → AloneBelow from → leaves_alone one other ≡ true
  alone_end from none before = all_from passes (layouts_written one) (λ layout has. by layout has (cases_Bool (is_among (layouts_touched other) layout)))
    where
      by : (layout : ℕ) → Contains (layouts_written one) layout → (is_among (layouts_touched other) layout ≡ true) ⊎ (is_among (layouts_touched other) layout ≡ false) → passes layout ≡ true
      by layout has (inl touched) = absurd (before layout has (none layout has) (from_among (layouts_touched other) layout touched))
      by layout has (inr apart) = ap not apart

  -- one is touched
  pub alone_not : (layout : ℕ) → Contains (layouts_written one) layout → Contains (layouts_touched other) layout → leaves_alone one other ≡ false
  alone_not layout has touched = fails_at passes (layouts_written one) layout has (ap not (among_from (layouts_touched other) layout touched))

-- neither touches what the other writes, by the two tests of it
pub both_alone : (one other : KernelCode) (first second : Bool) → first ≡ leaves_alone one other → second ≡ leaves_alone other one → first ≡ true → second ≡ are_independent one other
both_alone one other first second is_first is_second passes = is_second ∙ ap (λ (b : Bool). b && leaves_alone other one) (sym (sym is_first ∙ passes))

pub not_alone : (one other : KernelCode) (first : Bool) → first ≡ leaves_alone one other → first ≡ false → first ≡ are_independent one other
not_alone one other first is_first fails = fails ∙ ap (λ (b : Bool). b && leaves_alone other one) (sym (sym is_first ∙ fails))

-- ---- the text of a kernel

module _ (kernel : KernelCode) where
  pub next_kernel : (slice code : List Inst) (from : ℕ) (next : Option ℕ) → slice ≡ kernel.slice.body → code ≡ kernel.code.body → IsNext (flat_map written_by slice ++ flat_map written_by code) from next
      → IsNext (layouts_written kernel) from next
  next_kernel slice code from next is_slice is_code is =
      subst (λ (block : List Inst). IsNext (flat_map written_by kernel.slice.body ++ flat_map written_by block) from next) is_code
      (subst (λ (block : List Inst). IsNext (flat_map written_by block ++ flat_map written_by code) from next) is_slice is)

  abbrev in_slice : List ℕ
  in_slice = flat_map touched_by kernel.slice.body

  abbrev in_code : List ℕ
  in_code = flat_map touched_by kernel.code.body

  abbrev walked : List ℕ
  walked = layouts_walked kernel.domain

  pub slice_touches : (slice : List Inst) (layout : ℕ) → slice ≡ kernel.slice.body → Contains (flat_map touched_by slice) layout → Contains (in_slice ++ in_code) layout
  slice_touches slice layout is has = Contains-append_left in_slice in_code layout (subst (λ (block : List Inst). Contains (flat_map touched_by block) layout) is has)

  pub code_touches : (code : List Inst) (layout : ℕ) → code ≡ kernel.code.body → Contains (flat_map touched_by code) layout → Contains (in_slice ++ in_code) layout
  code_touches code layout is has = Contains-append_right in_slice in_code layout (subst (λ (block : List Inst). Contains (flat_map touched_by block) layout) is has)

  pub text_none : (slice code : List Inst) (layout : ℕ) → slice ≡ kernel.slice.body → code ≡ kernel.code.body → (Contains (flat_map touched_by slice) layout → ⊥) → (Contains (flat_map touched_by code) layout → ⊥)
      → Contains (in_slice ++ in_code) layout → ⊥
  text_none slice code layout is_slice is_code no_slice no_code has = by (Contains-append_cases in_slice in_code layout has)
    where
      by : Contains in_slice layout ⊎ Contains in_code layout → ⊥
      by (inl here) = no_slice (subst (λ (block : List Inst). Contains (flat_map touched_by block) layout) (sym is_slice) here)
      by (inr there) = no_code (subst (λ (block : List Inst). Contains (flat_map touched_by block) layout) (sym is_code) there)

  -- the text, and the walk
  pub text_some : (layout : ℕ) → Contains (in_slice ++ in_code) layout → Contains (layouts_touched kernel) layout
  text_some layout has = by (Contains-append_cases in_slice in_code layout has)
    where
      by : Contains in_slice layout ⊎ Contains in_code layout → Contains (layouts_touched kernel) layout
      by (inl here) = Contains-append_left in_slice (in_code ++ walked) layout here
      by (inr there) = Contains-append_right in_slice (in_code ++ walked) layout (Contains-append_left in_code walked layout there)

  pub walk_touches : (layout : ℕ) → Contains walked layout → Contains (layouts_touched kernel) layout
  walk_touches layout has = Contains-append_right in_slice (in_code ++ walked) layout (Contains-append_right in_code walked layout has)

  pub none_touches : (layout : ℕ) → (Contains (in_slice ++ in_code) layout → ⊥) → (Contains walked layout → ⊥) → Contains (layouts_touched kernel) layout → ⊥
  none_touches layout no_text no_walk has = by (Contains-append_cases in_slice (in_code ++ walked) layout has)
    where
      later : Contains in_code layout ⊎ Contains walked layout → ⊥
      later (inl there) = no_text (Contains-append_right in_slice in_code layout there)
      later (inr last) = no_walk last

      by : Contains in_slice layout ⊎ Contains (in_code ++ walked) layout → ⊥
      by (inl here) = no_text (Contains-append_left in_slice in_code layout here)
      by (inr behind) = later (Contains-append_cases in_code walked layout behind)

-- ---- the walk of a loop

pub walk_some : (domain : Domain) (walked layout : ℕ) → domain ≡ Walk walked → (walked == layout) ≡ true → Contains (layouts_walked domain) layout
walk_some domain walked layout is same = subst (λ (it : Domain). Contains (layouts_walked it) layout) (sym is) (contains_head layout walked [] (eqb-true walked layout same))

pub walk_none : (domain : Domain) (walked layout : ℕ) → domain ≡ Walk walked → (walked == layout) ≡ false → Contains (layouts_walked domain) layout → ⊥
walk_none domain walked layout is differ has = by (contains_cases layout walked [] (subst (λ (it : Domain). Contains (layouts_walked it) layout) is has))
  where
    by : (walked ≡ layout) ⊎ Contains [] layout → ⊥
    by (inl same) = both_ways (walked == layout) differ (eq-eqb walked layout same)
    by (inr none) = contains_none layout none

pub range_none : (domain : Domain) (lo hi : Coord) (layout : ℕ) → domain ≡ Range lo hi → Contains (layouts_walked domain) layout → ⊥
range_none domain lo hi layout is has = contains_none layout (subst (λ (it : Domain). Contains (layouts_walked it) layout) is has)
