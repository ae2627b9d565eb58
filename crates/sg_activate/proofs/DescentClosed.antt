-- What a closed table gives the last seat of a descent.
use Rattle.std.proofs.Common.{◌≡◌, ℕ, ◌+◌, inl, inr, List, length, drop, sym, ap, ◌∙◌, subst, arith}
use Rattle.std.specs.Prelude.{slice_index}
use Rattle.std.proofs.lemmas.Bool.{cases_eq}
use mathlib.Core.Option.{some}
use lib.ListN.{get_elem?}
use Rattle.sg_words.specs.declared.race.Worker.{Worker}
use Rattle.sg_words.specs.RaceInvariant.{MeetsRaceInvariant, handed_share}
use Rattle.sg_words.proofs.Uses.{made-ticket}
use Rattle.sg_words.specs.Stocks.{AreLinks}
use Rattle.sg_words.specs.Ranges.{range_at}
use Rattle.sg_activate.specs.declared.descent.rule.Start.{Start}
use Rattle.sg_activate.specs.declared.descent.seat.DescentPass.{DescentPass}
use Rattle.sg_activate.specs.DescentRace.{setting_of, Racing}
use Rattle.sg_activate.specs.steps.DescentParts.{IsLaidOut}
use Rattle.sg_activate.specs.steps.DescentEnds.{race_at_end, HasEnded, AreLevels}
use Rattle.sg_activate.proofs.TakenNumbers.{index_within}

-- the levels of a pass
pub pass_levels : (p : DescentPass) → AreLevels p.start p.base p.levels
pass_levels p = record {
  laid = p.laid;
  based = p.based;
  through = p.through;
  within = p.within;
  each = p.levels_are;
  kinds = p.kinds;
  slot_parts = λ k below kind. (p.slot_levels k below kind).part;
  mask_parts = λ k below kind. (p.mask_levels k below kind).part;
}

pub has_ended : (key start : Start) (words : List ℕ) (views : List Worker) (id : ℕ) (v : Worker) (links masks : List ℕ) (n m : ℕ) → key ≡ start → Racing key words views → get_elem? views id ≡ some v → handed_share v ≡ 16
    → links ≡ range_at 0 n words → n ≡ length start.links → masks ≡ range_at n m words → m ≡ length start.masks → HasEnded start v links masks
has_ended key start words views id v links masks n m is racing at all front size back width =
    let r : Racing start words views = subst (λ k. Racing k words views) is racing in
    let counts = drop (length start.links + length start.masks) words in
    let links_are : range_at 0 (length start.links) words ≡ links = ap (λ k. range_at 0 k words) (sym size) ∙ sym front in
    let masks_are : range_at (length start.links) (length start.masks) words ≡ masks = ap (λ k. range_at k (length start.masks) words) (sym size) ∙ ap (λ k. range_at n k words) (sym width) ∙ sym back in
    record {
      counts = counts;
      views = views;
      id = id;
      kept = subst (λ l. MeetsRaceInvariant (setting_of start) (race_at_end l masks counts views)) links_are
          (subst (λ l. MeetsRaceInvariant (setting_of start) (race_at_end (range_at 0 (length start.links) words) l counts views)) masks_are r.kept);
      stands = at;
      all = all;
    }

-- so each link fits its type
pub links_small : (start : Start) (v : Worker) (links masks : List ℕ) → IsLaidOut start → HasEnded start v links masks → AreLinks links
links_small start v links masks laid end i = elim (cases_eq (slice_index links i) 0) [
  | inl none ↦ omega arith
  | inr full ↦ elim (cases_eq (slice_index start.links i) 0) [
    | inl empty ↦
        let m = made-ticket (setting_of start) (race_at_end links masks end.counts end.views) i end.kept empty (omega arith) in
        let word = m.2 in
        let l = (setting_of start).node i in
        let number = laid.numbers l m.0 m.3 in
        let places = laid.places l in
        omega arith
    | inr was ↦
        let l = (setting_of start).node i in
        let inside = index_within start.links i (omega arith) in
        let stay = end.kept.slots_stay.1 i (omega arith) in
        let number = laid.links i in
        let places = laid.places l in
        omega arith
  ]
]
