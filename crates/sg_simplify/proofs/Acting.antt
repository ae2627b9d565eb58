-- Acts and reads of cells, by the new names of their registers.
use Rattle.std.proofs.Common.{◌≡◌, ℕ, true, List, [], ◌∷◌, ◌++◌, map, refl, sym, ap, ◌∙◌}
use Rattle.sg_words.specs.declared.operators.Ty.{Ty}
use Rattle.sg_words.specs.declared.operators.AccOp.{AccOp}
use Rattle.sg_ir.specs.declared.code.Inst.{Inst}
use Rattle.sg_ir.specs.declared.code.Inst.TheVariants as v
use Rattle.sg_ir.specs.declared.op.Op.{Op}
use Rattle.sg_ir.specs.Blocks.{Sight, sight_op, Block, Link, Word, Cell, Do, SetVar, WriteOwn, Contribute, Wish, link_step, link}
use Rattle.sg_ir.specs.Shared.{is_pure}
use Rattle.sg_ir.proofs.Uses.{fold-Set, fold-OwnWrite, fold-Acc, fold-Want}
use Rattle.sg_simplify.specs.declared.made.Made.{Made}
use Rattle.sg_simplify.specs.steps.Pass.{Given, Pass, Next, Making, put_in_front, made_name, given_type, renamed, with_name, taken, numbered, place_made, simplified, layout_seen}
use Rattle.sg_simplify.specs.steps.Made.{pass_of, next_of, types_of, Goes, onward}
use Rattle.sg_simplify.proofs.Making.{longer-none, goes-on, goes-from, goes-put}
use Rattle.sg_simplify.proofs.Taking.{onward-goes}

-- a pure operation on new registers
pub word-named : (given : Given) (regs : List Ty) (inst : Inst) (to : ℕ) (old new : Op) (pass : Pass) (next : Next) → is_pure given.single old ≡ true → ((rest : Block) → link regs inst rest ≡ Word to old rest) →
    new ≡ renamed next old → (rest : Block) → taken given (given_type given to) new [] (onward given to rest) pass next ≡ simplified given (link regs inst rest) pass next
word-named given regs inst to old new pass next pure linked named rest =
    ap (λ how. taken given (given_type given to) how [] (onward given to rest) pass next) named
    ∙ ap (λ b. numbered b given (given_type given to) (renamed next old) (onward given to rest) pass next) (sym pure)
    ∙ ap (λ block. simplified given block pass next) (sym (linked rest))

pub set-goes : (given : Given) (made : Made) (x y : List Inst) (var from named : ℕ) → named ≡ made_name (next_of made) from → y ≡ x ++ v.Set var named ∷ [] →
    (rest : Block) → Goes made made x y (simplified given (Do (SetVar var from) rest)) (simplified given rest)
set-goes given made x y var from named is put rest =
    goes-put made made x y (v.Set var named) (Do (SetVar var named)) (simplified given (Do (SetVar var from) rest)) (simplified given rest) (longer-none made) put
    (λ more behind. ap (λ (l : Link). l behind) (fold-Set (link_step (types_of made ++ more)) var named))
    (ap (λ r. put_in_front (Do (SetVar var r)) (simplified given rest (pass_of made) (next_of made))) (sym is))

pub write-goes : (given : Given) (made : Made) (x y : List Inst) (layout field from stmt named : ℕ) → named ≡ made_name (next_of made) from → y ≡ x ++ v.OwnWrite layout field named stmt ∷ [] →
    (rest : Block) → Goes made made x y (simplified given (Do (WriteOwn layout field from stmt) rest)) (simplified given rest)
write-goes given made x y layout field from stmt named is put rest =
    goes-put made made x y (v.OwnWrite layout field named stmt) (Do (WriteOwn layout field named stmt)) (simplified given (Do (WriteOwn layout field from stmt) rest)) (simplified given rest) (longer-none made) put
    (λ more behind. ap (λ (l : Link). l behind) (fold-OwnWrite (link_step (types_of made ++ more)) layout field named stmt))
    (ap (λ r. put_in_front (Do (WriteOwn layout field r stmt)) (simplified given rest (pass_of made) (next_of made))) (sym is))

pub want-goes : (given : Given) (made : Made) (x y : List Inst) (layout : ℕ) (index : List ℕ) (stmt : ℕ) (named : List ℕ) → named ≡ map (made_name (next_of made)) index → y ≡ x ++ v.Want layout named stmt ∷ [] →
    (rest : Block) → Goes made made x y (simplified given (Do (Wish layout index stmt) rest)) (simplified given rest)
want-goes given made x y layout index stmt named is put rest =
    goes-put made made x y (v.Want layout named stmt) (Do (Wish layout named stmt)) (simplified given (Do (Wish layout index stmt) rest)) (simplified given rest) (longer-none made) put
    (λ more behind. ap (λ (l : Link). l behind) (fold-Want (link_step (types_of made ++ more)) layout named stmt))
    (ap (λ it. put_in_front (Do (Wish layout it stmt)) (simplified given rest (pass_of made) (next_of made))) (sym is))

pub contribute-goes : (given : Given) (old new : Made) (x y z : List Inst) (how : AccOp) (layout field there from : ℕ) (index : List ℕ) (stmt named : ℕ) (names : List ℕ) (place : ℕ) →
    named ≡ made_name (next_of old) from → names ≡ map (made_name (next_of old)) index → ((go : ℕ → Making) → Goes old new x y (place_made given layout names go) (go place)) →
    z ≡ y ++ v.Acc how layout field place named names stmt ∷ [] → (rest : Block) → Goes old new x z (simplified given (Do (Contribute how layout field there from index stmt) rest)) (simplified given rest)
contribute-goes given old new x y z how layout field there from index stmt named names place is are goes put rest =
    goes-on old new new x y z start (behind place) (simplified given rest)
    (goes-from old new x y start (place_made given layout names behind) (behind place)
    (ap (λ r. at_names r (map (made_name (next_of old)) index)) (sym is) ∙ ap (at_names named) (sym are)) (goes behind))
    (goes-put new new y z (v.Acc how layout field place named names stmt) (Do (Contribute how layout field place named names stmt)) (behind place) (simplified given rest) (longer-none new) put
    (λ more last. ap (λ (l : Link). l last) (fold-Acc (link_step (types_of new ++ more)) how layout field place named names stmt)) refl)
  where
    start : Making
    start = simplified given (Do (Contribute how layout field there from index stmt) rest)

    behind : ℕ → Making
    behind p now later = put_in_front (Do (Contribute how layout field p named names stmt)) (simplified given rest now later)

    at_names : ℕ → List ℕ → Block × Next
    at_names r regs = place_made given layout regs (λ p now later. put_in_front (Do (Contribute how layout field p r regs stmt)) (simplified given rest now later)) (pass_of old) (next_of old)

pub read-goes : (given : Given) (old mid last new : Made) (x y z : List Inst) (from there : ℕ) (sight : Sight) (index names : List ℕ) (place to : ℕ) →
    names ≡ map (made_name (next_of old)) index → ((go : ℕ → Making) → Goes old mid x y (place_made given (layout_seen given there sight) names go) (go place)) →
    ((go : ℕ → Making) → Goes mid last y z (taken given (given_type given from) (sight_op place sight) names go) (go to)) →
    next_of new ≡ with_name from to (next_of last) → pass_of new ≡ pass_of last → (rest : Block) → Goes old new x z (simplified given (Cell from there sight index rest)) (simplified given rest)
read-goes given old mid last new x y z from there sight index names place to are goes takes next known rest =
    onward-goes given from to rest old last new x z start next known
    (goes-on old mid last x y z start (behind names place) (onward given from rest to)
    (goes-from old mid x y start (place_made given (layout_seen given there sight) names (behind names)) (behind names place)
    (ap (λ regs. place_made given (layout_seen given there sight) regs (behind regs) (pass_of old) (next_of old)) (sym are)) (goes (behind names)))
    (takes (onward given from rest)))
  where
    start : Making
    start = simplified given (Cell from there sight index rest)

    behind : List ℕ → ℕ → Making
    behind regs p = taken given (given_type given from) (sight_op p sight) regs (onward given from rest)
