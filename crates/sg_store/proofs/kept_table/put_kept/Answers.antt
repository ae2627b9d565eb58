use Rattle.std.proofs.Common.{◌≡◌, ◌≢◌, ◌+◌, ◌-◌, true, ◌==◌, if◌then◌else◌, Some, inl, inr, sym, ap, ◌∙◌, arith}
use Rattle.std.proofs.lemmas.Bool.{cases_Bool}
use Rattle.sg_hash.specs.Tables.{beside}
use Rattle.std.specs.Prelude.{slice_index}
use Rattle.sg_store.specs.Slots.{linked}
use Rattle.sg_store.specs.steps.Trimming.{is_kept}
use Rattle.sg_store.specs.steps.KeptWords.{in_row}
use Rattle.sg_store.proofs.TablesKept.{absent_yet, not_full, idle_place, put_place, link_kept, link_lost}
use Rattle.sg_store.proofs.kept_table.put_kept.Goals as goal
use Rattle.sg_store.proofs.kept_table.put_kept.Goals.{else-key-ne0-via-then-key-ne0+else-is_link_in_row, else-key-ne0-via-else-key-ne0}

pub put_in-requires-clause-absent : goal.put_in-requires-clause-absent
put_in-requires-clause-absent c =
    let own : slice_index c.args.keys.now c.args.place ≡ (c.get-key.result - 1) + 1 = omega (arith, c.get-key.ensures, c.if-key-ne0.true) in
    absent_yet c.args.keys.now c.args.links.now c.args.row.now c.args.kept.now c.args.beside.now c.args.place (c.get-key.result - 1) c.requires.old c.requires.so_far c.requires.there own

pub returns-then-is_link_in_row : goal.returns-then-is_link_in_row
returns-then-is_link_in_row c =
    let own : slice_index c.args.keys.now c.args.place ≡ (c.get-key.result - 1) + 1 = omega (arith, c.get-key.ensures, c.if-key-ne0.true) in
    let on : in_row c.args.row.now (slice_index c.args.links.now c.args.place - 1) ≡ true =
    link_kept (in_row c.args.row.now) (slice_index c.args.links.now c.args.place)
    (ap (λ w. is_kept (in_row c.args.row.now) (linked w)) (sym c.get-link.ensures) ∙ sym c.is_link_in_row.ensures ∙ c.if-is_link_in_row.true) in
    let put : c.put_in.result ≡ true = elim (cases_Bool c.put_in.result) [
      | inl yes_is ↦ yes_is
      | inr off ↦ absurd (not_full c.args.keys.now c.args.links.now c.args.row.now c.args.kept.now c.args.beside.now c.args.place (c.get-key.result - 1) c.requires.old c.requires.so_far (c.put_in.ensures.full.0 off))
    ] in
    put_place c.args.keys.now c.args.links.now c.args.row.now c.args.kept.now c.args.beside.now c.put_in.new.keys c.put_in.new.links c.args.place (c.get-key.result - 1) c.requires.old c.requires.there own on c.put_in.ensures.many c.put_in.ensures.table c.put_in.ensures.links
    (λ k. c.put_in.ensures.put put k ∙ ap (λ l. if k == c.get-key.result - 1 then Some (l - 1) else beside c.args.kept.now c.args.beside.now k) c.get-link.ensures)
    c.requires.so_far

pub returns-else-key-ne0 : goal.returns-else-key-ne0
returns-else-key-ne0 c = elim c.else-key-ne0.branch [
  | else-key-ne0-via-then-key-ne0+else-is_link_in_row w ↦
      idle_place c.args.keys.now c.args.links.now c.args.row.now c.args.kept.now c.args.beside.now c.args.place c.requires.old c.requires.there
      (λ key own.
      let some : slice_index c.args.keys.now c.args.place ≢ 0 = λ none. omega (arith, none, own) in
      link_lost (in_row c.args.row.now) (slice_index c.args.links.now c.args.place) (c.requires.old.links_beside.linked c.args.place c.requires.there some).0
      (ap (λ l. is_kept (in_row c.args.row.now) (linked l)) (sym c.get-link.ensures) ∙ sym w.is_link_in_row.ensures ∙ w.if-is_link_in_row.false))
      c.requires.so_far
  | else-key-ne0-via-else-key-ne0 w ↦
      idle_place c.args.keys.now c.args.links.now c.args.row.now c.args.kept.now c.args.beside.now c.args.place c.requires.old c.requires.there
      (λ key own. let none : slice_index c.args.keys.now c.args.place ≡ 0 = sym c.get-key.ensures ∙ w.if-key-ne0.false in absurd (omega (arith, none, own)))
      c.requires.so_far
]
