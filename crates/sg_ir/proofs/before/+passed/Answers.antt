use Rattle.std.proofs.Common.{◌≡◌, false, Some, None, take, sym, ap, ◌∙◌}
use Rattle.std.specs.List.{list_any}
use Rattle.sg_ir.specs.declared.settings.Target.TheVariants as tg
use Rattle.sg_ir.specs.steps.Targets.{leaves}
use Rattle.sg_ir.specs.steps.Scopes.{IsLast, passed_on, known_from, places_after, places_before}
use Rattle.sg_ir.proofs.Scanning.{get-some, places-none, places-at}
use Rattle.sg_ir.proofs.before.+passed.Goals as goal

pub passed_in-returns-in_default : goal.passed_in-returns-in_default
passed_in-returns-in_default t c =
    let none : list_any (leaves (tg.Place c.args.place)) c.args.done.now ≡ false = c.in_default.ensures in
    c.passed_by.ensures ∙ sym (places-none c.args.place (places_before c.args.outer.now) c.args.done.now none)

pub passed_in-returns-in-Some-Root : goal.passed_in-returns-in-Some-Root
passed_in-returns-in-Some-Root t c =
    let ps = places_before c.args.outer.now in
    let xs = c.args.done.now in
    let last : IsLast (tg.Place c.args.place) xs c.in-Some.at = c.in-Some.ensures in
    let is = get-some xs c.in-Some.at c.index-done-at.result last.within c.index-done-at.is in
    let from = ap (known_from (places_after ps (take c.in-Some.at xs))) (sym c.origin_of.ensures ∙ c.in-Some-Root.is ∙ ap Some c.in-Some-Root.field-0-is) in
    sym (places-at c.args.place ps xs c.in-Some.at c.index-done-at.result (Some (record { layout = c.in-Some-Root.layout; passed = 0 })) last is from)

pub passed_in-returns-in-Some-passed_in : goal.passed_in-returns-in-Some-passed_in
passed_in-returns-in-Some-passed_in t c =
    let ps = places_before c.args.outer.now in
    let xs = c.args.done.now in
    let last : IsLast (tg.Place c.args.place) xs c.in-Some.at = c.in-Some.ensures in
    let is = get-some xs c.in-Some.at c.index-done-at.result last.within c.index-done-at.is in
    let came = sym c.passed_in.ensures ∙ c.in-Some-passed_in.is in
    let from = ap (known_from (places_after ps (take c.in-Some.at xs))) (sym c.origin_of.ensures ∙ c.in-Some-Place.is ∙ ap Some c.in-Some-Place.field-0-is) ∙ ap (passed_on c.in-Some-Place.passed) came in
    sym (places-at c.args.place ps xs c.in-Some.at c.index-done-at.result (Some (record { layout = c.in-Some-passed_in.known.layout; passed = c.in-Some-Place.passed })) last is from)

pub passed_in-returns-in-None-passed_in : goal.passed_in-returns-in-None-passed_in
passed_in-returns-in-None-passed_in t c =
    let ps = places_before c.args.outer.now in
    let xs = c.args.done.now in
    let last : IsLast (tg.Place c.args.place) xs c.in-Some.at = c.in-Some.ensures in
    let is = get-some xs c.in-Some.at c.index-done-at.result last.within c.index-done-at.is in
    let came = sym c.passed_in.ensures ∙ c.in-None-passed_in.is in
    let from = ap (known_from (places_after ps (take c.in-Some.at xs))) (sym c.origin_of.ensures ∙ c.in-Some-Place.is ∙ ap Some c.in-Some-Place.field-0-is) ∙ ap (passed_on c.in-Some-Place.passed) came in
    c.passed_in-in-None-passed_in.ensures
    ∙ sym (places-at c.args.place ps xs c.in-Some.at c.index-done-at.result None last is from)

pub passed_in-returns-in-None : goal.passed_in-returns-in-None
passed_in-returns-in-None t c =
    let ps = places_before c.args.outer.now in
    let xs = c.args.done.now in
    let last : IsLast (tg.Place c.args.place) xs c.in-Some.at = c.in-Some.ensures in
    let is = get-some xs c.in-Some.at c.index-done-at.result last.within c.index-done-at.is in
    let from = ap (known_from (places_after ps (take c.in-Some.at xs))) (sym c.origin_of.ensures ∙ c.in-None.is) in
    c.passed_in-in-None.ensures
    ∙ sym (places-at c.args.place ps xs c.in-Some.at c.index-done-at.result None last is from)
