use Rattle.std.proofs.Common.{ℕ, List, length, sym, ap, ◌∙◌, arith}
use Rattle.sg_hash.specs.steps.Paging.{paged}
use Rattle.sg_hash.proofs.Paging.{like_fits, like_kept}
use Rattle.sg_hash.proofs.paged.PagedRow.become_like.Goals as goal

pub refill-requires : goal.refill-requires
refill-requires c =
    let fit = like_fits c.self.inside.words.items c.self.inside.pages.items c.args.self.now c.other.inside.words.items c.other.inside.pages.items c.args.other.now c.self.inside.places c.other.inside.places _ _ _ _ c.self.view_is c.self.invariant c.other.view_is c.other.invariant c.requires in
    omega (arith, fit.0, ap length c.as_slice.ensures.value)

pub refill-requires-2 : goal.refill-requires-2
refill-requires-2 c =
    let fit = like_fits c.self.inside.words.items c.self.inside.pages.items c.args.self.now c.other.inside.words.items c.other.inside.pages.items c.args.other.now c.self.inside.places c.other.inside.places _ _ _ _ c.self.view_is c.self.invariant c.other.view_is c.other.invariant c.requires in
    omega (arith, fit.1, ap length c.as_slice-2.ensures.value)

pub invariant_of-self : goal.invariant_of-self
invariant_of-self c =
    let fit = like_fits c.self.inside.words.items c.self.inside.pages.items c.args.self.now c.other.inside.words.items c.other.inside.pages.items c.args.other.now c.self.inside.places c.other.inside.places _ _ _ _ c.self.view_is c.self.invariant c.other.view_is c.other.invariant c.requires in
    like_kept c.self.inside.words.items c.self.inside.pages.items c.other.inside.words.items c.other.inside.pages.items c.refill.new.items.items c.refill-2.new.items.items c.self.inside.places c.other.inside.places _ _ _ _ _ _
    c.self.invariant c.other.invariant fit.2 (c.refill.ensures.items ∙ c.as_slice.ensures.value) (c.refill-2.ensures.items ∙ c.as_slice-2.ensures.value) c.refill.ensures.room c.refill-2.ensures.room

pub returns : goal.returns
returns c =
    let fit = like_fits c.self.inside.words.items c.self.inside.pages.items c.args.self.now c.other.inside.words.items c.other.inside.pages.items c.args.other.now c.self.inside.places c.other.inside.places _ _ _ _ c.self.view_is c.self.invariant c.other.view_is c.other.invariant c.requires in
    ap (λ (ws : List ℕ). paged ws c.refill-2.new.items.items c.self.inside.places) (c.refill.ensures.items ∙ c.as_slice.ensures.value)
    ∙ ap (λ (ps : List ℕ). paged c.other.inside.words.items ps c.self.inside.places) (c.refill-2.ensures.items ∙ c.as_slice-2.ensures.value)
    ∙ ap (paged c.other.inside.words.items c.other.inside.pages.items) (sym fit.2) ∙ c.other.view_is
