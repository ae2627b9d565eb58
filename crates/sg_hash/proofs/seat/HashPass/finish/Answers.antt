use Rattle.std.proofs.Common.{◌||◌, [], ◌∷◌, length, take, min, refl, ap, sym, subst, ◌∙◌}
use Rattle.sg_words.specs.Stocks.{is_dry, AreSpares, taken_of, outside, stands_in}
use Rattle.sg_words.proofs.Uses.{neither_holds, settled, are_spares}
use Rattle.sg_hash.specs.declared.rule.Start.{Start}
use Rattle.sg_hash.proofs.Endings.{keys_settled, keys_have_links, links_have_keys}
use Rattle.sg_hash.proofs.seat.HashPass.finish.Goals as goal

pub returns-clause-settled : goal.returns-clause-settled
returns-clause-settled c =
    let g = c.gather-start in
    let start = c.args.self.start in
    let v = c.args.seat.seat.me.0 in
    settled start.links start.keys start.stock (length start.stock ∷ length start.links ∷ []) v g.result.links g.result.keys g.result.count (is_dry v) c.args.self.fresh c.requires.all g.ensures.long g.ensures.ended refl

pub returns-clause-keys : goal.returns-clause-keys
returns-clause-keys c =
    let g = c.gather-start in
    keys_settled c.args.self.start c.args.seat.seat.me.0 g.result.links g.result.keys g.result.count c.args.seat.full c.requires.all c.args.self.many c.requires.own.others g.ensures.ended

pub returns-clause-beside : goal.returns-clause-beside
returns-clause-beside c =
    let g = c.gather-start in
    let start = c.args.self.start in
    links_have_keys start.links start.keys start.stock c.args.seat.seat.me.0 g.result.links g.result.keys c.args.seat.full (returns-clause-settled c) (returns-clause-keys c) c.requires.own.beside

pub returns-clause-linked : goal.returns-clause-linked
returns-clause-linked c wet =
    let g = c.gather-start in
    let start = c.args.self.start in
    let v = c.args.seat.seat.me.0 in
    keys_have_links start.links start.keys start.stock v g.result.links g.result.keys c.args.seat.full (returns-clause-settled c) (returns-clause-keys c) c.requires.own.linked
    (neither_holds (is_dry v) c.args.seat.full
    (sym (c.either.ensures ∙ ap (λ b. b || g.result.full) g.ensures.dry ∙ ap (λ b. is_dry v || b) g.ensures.full) ∙ wet)).0

pub returns-clause-spares : goal.returns-clause-spares
returns-clause-spares c =
    let g = c.gather-start in
    let start = c.args.self.start in
    let v = c.args.seat.seat.me.0 in
    let old = c.as_slice-3.ensures ∙ ap (λ (s : Start). s.links) g.ensures.start in
    let taken = c.as_slice-6.ensures ∙ c.in_ok-taken.ensures ∙ ap (λ l. taken_of l c.as_slice-4.result.now) old ∙ ap (λ l. taken_of start.links l) c.as_slice-4.ensures in
    let stock = c.as_slice-5.ensures ∙ ap (λ (s : Start). s.stock) g.ensures.start in
    let spares = c.in_ok-spares.ensures ∙ ap (λ l. outside (stands_in c.as_slice-6.result.now) (take (min g.result.count (length l)) l)) stock
    ∙ ap (λ l. outside (stands_in l) (take (min g.result.count (length start.stock)) start.stock)) taken in
    subst (λ l. AreSpares start.stock v l) (sym spares)
    (are_spares start.links start.keys start.stock (length start.stock ∷ length start.links ∷ []) v g.result.links g.result.keys g.result.count c.args.self.fresh c.args.seat.working c.requires.all g.ensures.long g.ensures.ended)
