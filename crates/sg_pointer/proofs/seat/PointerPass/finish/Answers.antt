use Rattle.std.proofs.Common.{[], ◌∷◌, length, take, min, ap, sym, subst, ◌∙◌}
use Rattle.sg_words.specs.Stocks.{AreSpares, taken_of, outside, stands_in}
use Rattle.sg_words.proofs.Uses.{are_spares}
use Rattle.sg_pointer.specs.declared.rule.Start.{Start}
use Rattle.sg_pointer.proofs.Endings.{settled}
use Rattle.sg_pointer.proofs.seat.PointerPass.finish.Goals as goal

pub returns-clause-settled : goal.returns-clause-settled
returns-clause-settled c =
    let g = c.gather-start in
    settled c.args.self.start c.args.seat.seat.me.0 g.result.links g.result.count g.result.dry c.args.self.fresh c.requires.all g.ensures.long g.ensures.ended g.ensures.dry

pub returns-clause-spares : goal.returns-clause-spares
returns-clause-spares c =
    let g = c.gather-start in
    let start = c.args.self.start in
    let v = c.args.seat.seat.me.0 in
    let old = c.as_slice-2.ensures ∙ ap (λ (s : Start). s.links) g.ensures.start in
    let taken = c.as_slice-5.ensures ∙ c.in_ok-taken.ensures ∙ ap (λ l. taken_of l c.as_slice-3.result.now) old ∙ ap (λ l. taken_of start.links l) c.as_slice-3.ensures in
    let stock = c.as_slice-4.ensures ∙ ap (λ (s : Start). s.stock) g.ensures.start in
    let spares = c.in_ok-spares.ensures ∙ ap (λ l. outside (stands_in c.as_slice-5.result.now) (take (min g.result.count (length l)) l)) stock
    ∙ ap (λ l. outside (stands_in l) (take (min g.result.count (length start.stock)) start.stock)) taken in
    subst (λ l. AreSpares start.stock v l) (sym spares)
    (are_spares start.links [] start.stock (length start.stock ∷ []) v g.result.links [] g.result.count c.args.self.fresh c.args.seat.working c.requires.all g.ensures.long g.ensures.ended)
