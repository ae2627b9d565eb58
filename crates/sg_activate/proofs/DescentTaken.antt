-- The numbers of new links at a level: those of its node, which fit or don't.
use Rattle.std.proofs.Common.{◌≡◌, ℕ, suc, ◌+◌, ◌<◌, ◌≤◌, inl, inr, nat_le, true, false, List, length, drop, sym, ap, ◌∙◌, subst, arith}
use Rattle.std.specs.Prelude.{slice_index}
use Rattle.std.proofs.lemmas.Bool.{cases_lt}
use Rattle.std.proofs.lemmas.Bool.Decides.{nat_tests}
use Rattle.std.proofs.lemmas.List.{length-take, length-drop, get_or_past}
use Rattle.sg_layout.specs.declared.shape.Kind.TheVariants.{Pointer}
use Rattle.sg_layout.specs.declared.shape.NodeShape.{NodeShape}
use Rattle.sg_layout.specs.declared.shape.Shape.{Shape}
use Rattle.sg_layout.specs.Axes.{count_of}
use Rattle.sg_layout.specs.NeedLaws.{IsNumberedNode}
use Rattle.sg_words.specs.Stocks.{AreLinks, taken_of}
use Rattle.sg_words.proofs.Uses.{range-get}
use Rattle.sg_store.specs.StoreWords.{StoreWords}
use Rattle.sg_activate.specs.declared.fault.ActFault.TheVariants.{PoolFull}
use Rattle.sg_activate.specs.declared.descent.rule.Start.{Start}
use Rattle.sg_activate.specs.declared.descent.level.Level.{Level}
use Rattle.sg_activate.specs.TableParts.{first_of}
use Rattle.sg_activate.specs.DescentRace.{limits_of, slots_each}
use Rattle.sg_activate.specs.Descending.{pointer_number}
use Rattle.sg_activate.specs.steps.DescentWalk.{level_at}
use Rattle.sg_activate.specs.steps.DescentEnds.{AreLevels, slots_of_node, taken_at_node, IsTaken, IsOverFull}

module _ (start : Start) (base : ℕ) (levels : List Level) (are : AreLevels start base levels) (links : List ℕ) (k : ℕ) (below : k < length levels) where
  -- a level without links has none
  pub none_taken : (taken : List ℕ) → ((level_at levels k).kind ≡ Pointer → ⊥) → IsTaken start base levels links k taken
  none_taken taken other = record {
    numbers = λ pointer. absurd (other pointer);
    fit = λ pointer. absurd (other ((are.each k below).kind ∙ pointer));
  }

  taken_are : (old new taken : List ℕ) → taken ≡ taken_of old new → old ≡ slots_of_node start (suc (base + k)) start.links → new ≡ slots_of_node start (suc (base + k)) links → taken ≡ taken_at_node start links (suc (base + k))
  taken_are old new taken is old_is new_is = is ∙ ap (λ l. taken_of l new) old_is ∙ ap (taken_of (slots_of_node start (suc (base + k)) start.links)) new_is

  -- they fit
  pub all_taken : (old new taken : List ℕ) (count : ℕ) → taken ≡ taken_of old new → old ≡ slots_of_node start (suc (base + k)) start.links → new ≡ slots_of_node start (suc (base + k)) links → count ≡ length taken
      → nat_le (count + 17) (slice_index (limits_of start) (pointer_number start (suc (base + k)))) ≡ true → IsTaken start base levels links k taken
  all_taken old new taken count is old_is new_is counted test =
      let e = taken_are old new taken is old_is new_is in
      let fits : count + 17 ≤ slice_index (limits_of start) (pointer_number start (suc (base + k))) = grind (arith, nat_tests) in
      let long : length (taken_at_node start links (suc (base + k))) ≡ length taken = ap length (sym e) in
      record { numbers = λ _. e; fit = λ _. omega arith }

  -- or not
  pub over_full : (store : StoreWords) (old new taken : List ℕ) (count number cap : ℕ) → start.layout ≡ store.shape → (level_at levels k).kind ≡ Pointer → taken ≡ taken_of old new → old ≡ slots_of_node start (suc (base + k)) start.links
      → new ≡ slots_of_node start (suc (base + k)) links → count ≡ length taken → nat_le (count + 17) (slice_index (limits_of start) (pointer_number start (suc (base + k)))) ≡ false → number ≡ suc (base + k)
      → ((node : NodeShape) → IsNumberedNode store.shape number node → cap ≡ count_of node.cap) → IsOverFull start base levels links k (PoolFull number cap)
  over_full store old new taken count number cap same pointer is old_is new_is counted test numbered capped =
      let e = taken_are old new taken is old_is new_is in
      let past : slice_index (limits_of start) (pointer_number start (suc (base + k))) < count + 17 = grind (arith, nat_tests) in
      let long : length (taken_at_node start links (suc (base + k))) ≡ length taken = ap length (sym e) in
      record {
        there = below;
        pointer = sym (are.each k below).kind ∙ pointer;
        past = omega arith;
        cap = cap;
        cap_is = λ node here. capped node (subst (λ n. IsNumberedNode store.shape n node) (sym numbered) (subst (λ (s : Shape). IsNumberedNode s (suc (base + k)) node) same here));
        named = ap (λ n. PoolFull n cap) numbered;
      }

-- the words of one node, of two lists of slots as long
pub same_long : (start : Start) (number : ℕ) (old_all new_all old new : List ℕ) → old ≡ slots_of_node start number old_all → new ≡ slots_of_node start number new_all → length new_all ≡ length old_all → length new ≡ length old
same_long start number old_all new_all old new old_is new_is same =
    let from = first_of (slots_each start) (pointer_number start number) in
    let many = slice_index (slots_each start) (pointer_number start number) in
    let a = length-take many (drop from old_all) in
    let b = length-take many (drop from new_all) in
    let c = length-drop from old_all in
    let d = length-drop from new_all in
    let o = ap length old_is in
    let n = ap length new_is in
    omega arith

-- their words are as small as all are
pub small_slots : (start : Start) (number : ℕ) (all new : List ℕ) → new ≡ slots_of_node start number all → AreLinks all → AreLinks new
small_slots start number all new is small i =
    let from = first_of (slots_each start) (pointer_number start number) in
    let many = slice_index (slots_each start) (pointer_number start number) in
    let read = ap (λ l. slice_index l i) is in
    elim (cases_lt i many) [
      | inl below ↦ let w = range-get from many all i below in let s = small (from + i) in omega arith
      | inr past ↦
          let short = length-take many (drop from all) in
          let none : slice_index (slots_of_node start number all) i ≡ 0 = get_or_past (slots_of_node start number all) i 0 (omega arith) in
          omega arith
    ]
