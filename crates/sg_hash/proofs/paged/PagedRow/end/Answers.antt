use Rattle.std.proofs.Common.{sym, arith}
use Rattle.sg_hash.proofs.Paging.{places_are, past_pages, word_past}
use Rattle.sg_hash.proofs.paged.PagedRow.end.Goals as goal

pub returns-then-last-self-clause-within : goal.returns-then-last-self-clause-within
returns-then-last-self-clause-within c = omega (arith, c.if-last-self.true, places_are c.self.inside.words.items c.self.inside.pages.items c.args.self.now c.self.inside.places c.self.view_is)

pub returns-then-last-self-clause-zeros : goal.returns-then-last-self-clause-zeros
returns-then-last-self-clause-zeros c = λ place past. past_pages c.self.inside.words.items c.self.inside.pages.items c.args.self.now c.self.inside.places place c.self.invariant.0 c.self.view_is (omega (arith, past, c.len-last.ensures))

pub returns-then-last-self-clause-few : goal.returns-then-last-self-clause-few
returns-then-last-self-clause-few c = let kept = c.self.invariant in omega (arith, places_are c.self.inside.words.items c.self.inside.pages.items c.args.self.now c.self.inside.places c.self.view_is, kept.3)

pub returns-else-last-self-clause-within : goal.returns-else-last-self-clause-within
returns-else-last-self-clause-within c = omega (arith, places_are c.self.inside.words.items c.self.inside.pages.items c.args.self.now c.self.inside.places c.self.view_is)

pub returns-else-last-self-clause-zeros : goal.returns-else-last-self-clause-zeros
returns-else-last-self-clause-zeros c = λ place past. sym (word_past c.self.inside.words.items c.self.inside.pages.items c.args.self.now c.self.inside.places place c.self.view_is past)

pub returns-else-last-self-clause-few : goal.returns-else-last-self-clause-few
returns-else-last-self-clause-few c = let kept = c.self.invariant in omega (arith, places_are c.self.inside.words.items c.self.inside.pages.items c.args.self.now c.self.inside.places c.self.view_is, kept.3)
