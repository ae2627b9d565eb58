use Rattle.std.proofs.Common.{arith, refl, ap, length, ℕ}
use Rattle.std.proofs.lemmas.List.{length-replicate}
use Rattle.sg_links.proofs.Kept.{head_of, kept_invariant, kept_seen}
use Rattle.sg_links.proofs.Changes.{made}
use Rattle.sg_links.proofs.links.Links.make.Goals as goal

pub invariant_of-result : goal.invariant_of-result
invariant_of-result c =
    let next = c.in_ok-make.ensures in
    let heads = c.in_ok-make-2.ensures in
    let starts = c.in_ok-make-3.ensures in
    let order = c.in_ok-make-4.ensures in
    record {
      linked = kept_invariant _ _ _ (made c.args.numbers c.args.heads _ _ _ (omega arith) (omega arith) next heads refl);
      starts_many = omega (arith, ap length starts, ap length heads, length-replicate {A = ℕ} c.args.heads 0, length-replicate c.args.heads (head_of c.args.numbers c.args.numbers 0));
      order_many = omega (arith, ap length order, ap length next, length-replicate {A = ℕ} c.args.numbers 0, length-replicate {A = ℕ} c.args.numbers c.args.numbers);
      laid = λ is. absurd (cc is);
    }

pub returns : goal.returns
returns c = kept_seen _ _ _ (made c.args.numbers c.args.heads _ _ _ (omega arith) (omega arith) c.in_ok-make.ensures c.in_ok-make-2.ensures refl)
