-- What code puts out stands for what the pass puts out: one step, and one after the other.
use Rattle.std.proofs.Common.{◌≡◌, ℕ, suc, List, [], ◌∷◌, ◌++◌, length, map, get_or, refl, sym, ap, ◌∙◌, subst, append_assoc}
use Rattle.sg_words.specs.declared.operators.Ty.{Ty}
use Rattle.sg_words.specs.declared.operators.Ty.TheVariants as ty
use Rattle.sg_ir.specs.declared.code.Inst.{Inst}
use Rattle.sg_ir.specs.declared.op.Op.{Op}
use Rattle.sg_ir.specs.Blocks.{Block, Link, chained, link}
use Rattle.sg_simplify.proofs.Reading.{append-none, map-append, chained-append}
use Rattle.sg_simplify.specs.declared.made.Made.{Made}
use Rattle.sg_simplify.specs.declared.made.Reg.{Reg}
use Rattle.sg_simplify.specs.steps.Pass.{Given, Pass, Next, Making, put_in_front, set_word, fresh, next_with_reg, span_of}
use Rattle.sg_simplify.specs.steps.Made.{pass_of, next_of, types_of, onto, Longer, Continues, Goes, AddsMadeReg, HasTruth, TruthIs}

-- one instruction more
onto-one : (types : List Ty) (insts : List Inst) (inst : Inst) (made : Block × Next) → onto types (insts ++ inst ∷ []) made ≡ onto types insts (link types inst made.0, made.1)
onto-one types insts inst made =
    ap (λ (links : List Link). (chained links made.0, made.1)) (map-append (link types) insts (inst ∷ []))
    ∙ ap (λ (block : Block). (block, made.1)) (chained-append (map (link types) insts) (link types inst ∷ []) made.0)

pub longer-none : (made : Made) → Longer made made
longer-none made = record {
  types = [];
  more_types = append-none (types_of made);
  ops = [];
  more_ops = append-none (pass_of made).ops;
  steps = [];
  more_steps = append-none (pass_of made).steps;
  loops = refl;
}

further : {A : Type 0} (xs ys zs us vs : List A) → ys ≡ xs ++ us → zs ≡ ys ++ vs → zs ≡ xs ++ (us ++ vs)
further xs ys zs us vs one two = two ∙ ap (λ it. it ++ vs) one ∙ append_assoc xs us vs

pub longer-on : (a b c : Made) → Longer a b → Longer b c → Longer a c
longer-on a b c one two = record {
  types = one.types ++ two.types;
  more_types = further (types_of a) (types_of b) (types_of c) one.types two.types one.more_types two.more_types;
  ops = one.ops ++ two.ops;
  more_ops = further (pass_of a).ops (pass_of b).ops (pass_of c).ops one.ops two.ops one.more_ops two.more_ops;
  steps = one.steps ++ two.steps;
  more_steps = further (pass_of a).steps (pass_of b).steps (pass_of c).steps one.steps two.steps one.more_steps two.more_steps;
  loops = two.loops ∙ one.loops;
}

-- nothing is put out
pub goes-here : (old new : Made) (insts : List Inst) (A B : Making) → Longer old new → A (pass_of old) (next_of old) ≡ B (pass_of new) (next_of new) → Goes old new insts insts A B
goes-here old new insts A B longer same = record { longer = longer; continues = λ more. ap (onto (types_of new ++ more) insts) same }

pub goes-on : (a b c : Made) (x y z : List Inst) (A B C : Making) → Goes a b x y A B → Goes b c y z B C → Goes a c x z A C
goes-on a b c x y z A B C one two = record { longer = longer-on a b c one.longer two.longer; continues = on }
  where
    on : Continues a c x z A C
    on more =
        let longer : types_of c ++ more ≡ types_of b ++ (two.longer.types ++ more) = ap (λ types. types ++ more) two.longer.more_types ∙ append_assoc (types_of b) two.longer.types more in
        let first : onto (types_of c ++ more) x (A (pass_of a) (next_of a)) ≡ onto (types_of c ++ more) y (B (pass_of b) (next_of b)) =
        subst (λ types. onto types x (A (pass_of a) (next_of a)) ≡ onto types y (B (pass_of b) (next_of b))) (sym longer) (one.continues (two.longer.types ++ more)) in
        first ∙ two.continues more

-- the same, from or to another way of saying it
pub goes-from : (a b : Made) (x y : List Inst) (A B R : Making) → A (pass_of a) (next_of a) ≡ B (pass_of a) (next_of a) → Goes a b x y B R → Goes a b x y A R
goes-from a b x y A B R same goes = goes-on a a b x x y A B R (goes-here a a x A B (longer-none a) same) goes

pub goes-to : (a b c : Made) (x y : List Inst) (A R S : Making) → Longer b c → Goes a b x y A R → R (pass_of b) (next_of b) ≡ S (pass_of c) (next_of c) → Goes a c x y A S
goes-to a b c x y A R S longer goes same = goes-on a b c x y y A R S goes (goes-here b c y R S longer same)

-- an instruction is put out
pub goes-put : (old new : Made) (x y : List Inst) (inst : Inst) (L : Link) (A R : Making) → Longer old new → y ≡ x ++ inst ∷ [] →
    ((more : List Ty) (rest : Block) → link (types_of new ++ more) inst rest ≡ L rest) → A (pass_of old) (next_of old) ≡ put_in_front L (R (pass_of new) (next_of new)) → Goes old new x y A R
goes-put old new x y inst L A R longer put links same = record { longer = longer; continues = on }
  where
    on : Continues old new x y A R
    on more =
        let types : List Ty = types_of new ++ more in
        let made : Block × Next = R (pass_of new) (next_of new) in
        ap (onto types x) same
        ∙ ap (λ (block : Block). onto types x (block, made.1)) (sym (links more made.0))
        ∙ sym (onto-one types x inst made)
        ∙ ap (λ (insts : List Inst). onto types insts made) (sym put)

-- the type of the last register
type-last : (xs : List Ty) (y : Ty) (zs : List Ty) → get_or (xs ++ y ∷ zs) (length xs) ty.U32 ≡ y
type-last [] y zs = refl
type-last (x ∷ xs) y zs = type-last xs y zs

same-length : (made : Made) → length (next_of made).spans ≡ length (types_of made)
same-length made = go made.regs
  where
    go : (regs : List Reg) → length (map (λ reg. reg.span) regs) ≡ length (map (λ reg. reg.ty) regs)
    go [] = refl
    go (reg ∷ regs) = ap suc (go regs)

-- a new register
pub fresh-goes : (given : Given) (type : Ty) (how : Op) (index : List ℕ) (to : ℕ) (old new : Made) (x y : List Inst) (inst : Inst) → HasTruth type how → AddsMadeReg given type how to old new →
    ((regs : List Ty) → TruthIs regs to how → (rest : Block) → link regs inst rest ≡ set_word to how index rest) → y ≡ x ++ inst ∷ [] →
    (go : ℕ → Making) → Goes old new x y (fresh given type how index go) (go to)
fresh-goes given type how index to old new x y inst truth adds links put go =
    goes-put old new x y inst (set_word to how index) (fresh given type how index go) (go to) longer put linked same
  where
    grown : types_of new ≡ types_of old ++ type ∷ []
    grown = ap (λ (next : Next). next.types) adds.next

    longer : Longer old new
    longer = record {
      types = type ∷ [];
      more_types = grown;
      ops = [];
      more_ops = ap (λ (pass : Pass). pass.ops) adds.known ∙ append-none (pass_of old).ops;
      steps = [];
      more_steps = ap (λ (pass : Pass). pass.steps) adds.known ∙ append-none (pass_of old).steps;
      loops = ap (λ (pass : Pass). pass.loops) adds.known;
    }

    its_type : (more : List Ty) → get_or (types_of new ++ more) to ty.U32 ≡ type
    its_type more =
        let number : to ≡ length (types_of old) = adds.number ∙ same-length old in
        ap (λ (types : List Ty). get_or (types ++ more) to ty.U32) grown
        ∙ ap (λ (types : List Ty). get_or types to ty.U32) (append_assoc (types_of old) (type ∷ []) more)
        ∙ ap (λ r. get_or (types_of old ++ type ∷ more) r ty.U32) number
        ∙ type-last (types_of old) type more

    linked : (more : List Ty) (rest : Block) → link (types_of new ++ more) inst rest ≡ set_word to how index rest
    linked more rest = links (types_of new ++ more) (subst (λ t. HasTruth t how) (sym (its_type more)) truth) rest

    same : fresh given type how index go (pass_of old) (next_of old) ≡ put_in_front (set_word to how index) (go to (pass_of new) (next_of new))
    same =
        ap (λ r. put_in_front (set_word r how index) (go r (pass_of old) (next_with_reg type (span_of given (pass_of old) (next_of old) how) (next_of old)))) (sym adds.number)
        ∙ ap (λ next. put_in_front (set_word to how index) (go to (pass_of old) next)) (sym adds.next)
        ∙ ap (λ pass. put_in_front (set_word to how index) (go to pass (next_of new))) (sym adds.known)
