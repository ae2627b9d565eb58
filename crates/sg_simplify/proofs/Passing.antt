-- Blocks and what stands in them.
use Rattle.std.proofs.Common.{◌≡◌, ℕ, ◌+◌, false, List, [], ◌∷◌, ◌++◌, length, map, take, drop, reverse, refl, sym, ap, ◌∙◌, append_assoc, Option, None, Some, MatchOption, ℤ}
use Rattle.std.proofs.lemmas.Bool.{true≢false}
use Rattle.std.proofs.lemmas.List.{reverse-append}
use Rattle.sg_words.specs.declared.operators.Ty.{Ty}
use Rattle.sg_words.specs.declared.operators.AccOp.{AccOp}
use Rattle.sg_ir.specs.declared.code.Inst.{Inst}
use Rattle.sg_ir.specs.declared.code.Inst.TheVariants as v
use Rattle.sg_ir.specs.Blocks.{Block, Link, Branch, Loop, chained, link_step, link, block_of}
use Rattle.sg_ir.specs.declared.op.Op.{Op}
use Rattle.sg_ir.specs.declared.op.Step.{Step}
use Rattle.sg_ir.specs.declared.span.Span.{Span}
use Rattle.sg_ir.proofs.Uses.{by_inst, fold-Const, fold-Var, fold-Bin, fold-Un, fold-Mulq, fold-Root, fold-Check, fold-Extract, fold-Offset, fold-Child, fold-HashChild, fold-MaskBit, fold-DynCell, fold-OwnRead, fold-If, fold-For}
use Rattle.sg_simplify.specs.declared.made.Made.{Made}
use Rattle.sg_simplify.specs.declared.made.Looped.{Looped}
use Rattle.sg_simplify.specs.steps.Pass.{Given, Pass, Next, Making, put_in_front, made_name, looped, simplified}
use Rattle.sg_simplify.specs.steps.Made.{span_in_loop, pass_of, next_of, types_of, Longer, Goes, word_step, is_word}
use Rattle.sg_simplify.proofs.Reading.{append-none, map-append, take-front}
use Rattle.sg_simplify.proofs.Making.{longer-none, longer-on, goes-here, goes-from, goes-on, goes-put}

-- an instruction, by its link
pub linked-goes : (given : Given) (regs : List Ty) (inst : Inst) (L : Link) (old new : Made) (x y : List Inst) → ((rest : Block) → link regs inst rest ≡ L rest) →
    ((rest : Block) → Goes old new x y (simplified given (L rest)) (simplified given rest)) → (rest : Block) → Goes old new x y (simplified given (link regs inst rest)) (simplified given rest)
linked-goes given regs inst L old new x y linked goes rest =
    goes-from old new x y (simplified given (link regs inst rest)) (simplified given (L rest)) (simplified given rest) (ap (λ block. simplified given block (pass_of old) (next_of old)) (linked rest)) (goes rest)

-- the next instruction of a block
pub next-goes : (given : Given) (regs : List Ty) (insts : List Inst) (i : ℕ) (inst : Inst) (old mid new : Made) (x y z : List Inst) (A : Making) → drop i insts ≡ inst ∷ drop (i + 1) insts →
    Goes old mid x y A (simplified given (block_of regs (drop i insts))) → ((rest : Block) → Goes mid new y z (simplified given (link regs inst rest)) (simplified given rest)) →
    Goes old new x z A (simplified given (block_of regs (drop (i + 1) insts)))
next-goes given regs insts i inst old mid new x y z A split before goes =
    goes-on old mid new x y z A (simplified given (block_of regs (drop i insts))) (simplified given (block_of regs (drop (i + 1) insts))) before
    (goes-from mid new y z (simplified given (block_of regs (drop i insts))) (simplified given (link regs inst (block_of regs (drop (i + 1) insts)))) (simplified given (block_of regs (drop (i + 1) insts)))
    (ap (λ rest. simplified given (block_of regs rest) (pass_of mid) (next_of mid)) split) (goes (block_of regs (drop (i + 1) insts))))

-- a block that was put out
pub record IsMade (given : Given) (regs : List Ty) (insts out : List Inst) (old new : Made) : Type 0 where
  pub longer : Longer old new
  pub known : pass_of new ≡ pass_of old
  pub puts : (more : List Ty) → (block_of (types_of new ++ more) out, next_of new) ≡ simplified given (block_of regs insts) (pass_of old) (next_of old)

-- what was made known in a block is forgotten
pub truncated : (old mid : Pass) (ops : List (Op × ℕ)) (steps : List (Step × ℕ)) → mid.ops ≡ old.ops ++ ops → mid.steps ≡ old.steps ++ steps → mid.loops ≡ old.loops →
    (few_ops : List (Op × ℕ)) (few_steps : List (Step × ℕ)) → few_ops ≡ take (length old.ops) mid.ops → few_steps ≡ take (length old.steps) mid.steps →
    record { ops = few_ops; steps = few_steps; loops = mid.loops } ≡ old
truncated old mid ops steps more_ops more_steps loops few_ops few_steps first second =
    let ops_back : few_ops ≡ old.ops = first ∙ ap (take (length old.ops)) more_ops ∙ take-front old.ops ops in
    let steps_back : few_steps ≡ old.steps = second ∙ ap (take (length old.steps)) more_steps ∙ take-front old.steps steps in
    ap (λ them. as_pass them few_steps mid.loops) ops_back ∙ ap (λ them. as_pass old.ops them mid.loops) steps_back ∙ ap (as_pass old.ops old.steps) loops
  where
    as_pass : List (Op × ℕ) → List (Step × ℕ) → List (ℕ × Span) → Pass
    as_pass them those loops = record { ops = them; steps = those; loops = loops }

longer-known : (old mid new : Made) → Longer old mid → next_of new ≡ next_of mid → pass_of new ≡ pass_of old → Longer old new
longer-known old mid new longer next known = record {
  types = longer.types;
  more_types = ap (λ (further : Next). further.types) next ∙ longer.more_types;
  ops = [];
  more_ops = ap (λ (pass : Pass). pass.ops) known ∙ append-none (pass_of old).ops;
  steps = [];
  more_steps = ap (λ (pass : Pass). pass.steps) known ∙ append-none (pass_of old).steps;
  loops = ap (λ (pass : Pass). pass.loops) known;
}

pub block-made : (given : Given) (regs : List Ty) (insts out : List Inst) (i : ℕ) (old mid new : Made) → drop i insts ≡ [] →
    Goes old mid [] out (simplified given (block_of regs insts)) (simplified given (block_of regs (drop i insts))) → next_of new ≡ next_of mid → pass_of new ≡ pass_of old → IsMade given regs insts out old new
block-made given regs insts out i old mid new none goes next known = record {
  longer = longer-known old mid new goes.longer next known;
  known = known;
  puts = λ more.
      ap (λ (further : Next). (block_of (further.types ++ more) out, further)) next
      ∙ sym (goes.continues more ∙ ap (λ rest. (let made = simplified given (block_of regs rest) (pass_of mid) (next_of mid) in (chained (map (link (types_of mid ++ more)) out) made.0, made.1))) none);
}

-- with types of later registers
later-types : (given : Given) (regs : List Ty) (insts out : List Inst) (old mid new : Made) → IsMade given regs insts out old mid → Longer mid new → (more : List Ty) →
    (block_of (types_of new ++ more) out, next_of mid) ≡ simplified given (block_of regs insts) (pass_of old) (next_of old)
later-types given regs insts out old mid new made longer more =
    let whole : types_of new ++ more ≡ types_of mid ++ (longer.types ++ more) = ap (λ types. types ++ more) longer.more_types ∙ append_assoc (types_of mid) longer.types more in
    ap (λ types. (block_of types out, next_of mid)) whole ∙ made.puts (longer.types ++ more)

pub branch-goes : (given : Given) (regs : List Ty) (cond named : ℕ) (block otherwise first second : List Inst) (old mid new : Made) (x y : List Inst) → named ≡ made_name (next_of old) cond →
    IsMade given regs block first old mid → IsMade given regs otherwise second mid new → y ≡ x ++ v.If named first second ∷ [] →
    (rest : Block) → Goes old new x y (simplified given (Branch cond (block_of regs block) (block_of regs otherwise) rest)) (simplified given rest)
branch-goes given regs cond named block otherwise first second old mid new x y is one two put rest =
    goes-put old new x y (v.If named first second) (Branch named F.0 S.0) (simplified given (Branch cond (block_of regs block) (block_of regs otherwise) rest)) (simplified given rest)
    (longer-on old mid new one.longer two.longer) put links same
  where
    F : Block × Next
    F = simplified given (block_of regs block) (pass_of old) (next_of old)

    S : Block × Next
    S = simplified given (block_of regs otherwise) (pass_of old) F.1

    first_next : next_of mid ≡ F.1
    first_next = ap (λ (made : Block × Next). made.1) (one.puts [])

    second_is : simplified given (block_of regs otherwise) (pass_of mid) (next_of mid) ≡ S
    second_is = ap (λ pass. simplified given (block_of regs otherwise) pass (next_of mid)) one.known ∙ ap (simplified given (block_of regs otherwise) (pass_of old)) first_next

    second_next : next_of new ≡ S.1
    second_next = ap (λ (made : Block × Next). made.1) (two.puts [] ∙ second_is)

    links : (more : List Ty) (behind : Block) → link (types_of new ++ more) (v.If named first second) behind ≡ Branch named F.0 S.0 behind
    links more behind =
        ap (λ (l : Link). l behind) (fold-If (link_step (types_of new ++ more)) named first second)
        ∙ ap (λ (made : Block × Next). Branch named made.0 (block_of (types_of new ++ more) second) behind) (later-types given regs block first old mid new one two.longer more)
        ∙ ap (λ (made : Block × Next). Branch named F.0 made.0 behind) (two.puts more ∙ second_is)

    same : simplified given (Branch cond (block_of regs block) (block_of regs otherwise) rest) (pass_of old) (next_of old) ≡ put_in_front (Branch named F.0 S.0) (simplified given rest (pass_of new) (next_of new))
    same =
        ap (λ r. put_in_front (Branch r F.0 S.0) (simplified given rest (pass_of old) S.1)) (sym is)
        ∙ ap (λ next. put_in_front (Branch named F.0 S.0) (simplified given rest (pass_of old) next)) (sym second_next)
        ∙ ap (λ pass. put_in_front (Branch named F.0 S.0) (simplified given rest pass (next_of new))) (sym (two.known ∙ one.known))

-- the loops inside
pub loops-more : (loops more : List Looped) (inner : Looped) → more ≡ loops ++ inner ∷ [] → reverse (map span_in_loop more) ≡ span_in_loop inner ∷ reverse (map span_in_loop loops)
loops-more loops more inner is =
    ap (λ them. reverse (map span_in_loop them)) is ∙ ap reverse (map-append span_in_loop loops (inner ∷ [])) ∙ reverse-append (map span_in_loop loops) (span_in_loop inner ∷ [])

-- the loops after one that was gone into
pub popped : (result : Option Looped) (inside left : List Looped) (inner : ℕ × Span) (outer : List (ℕ × Span)) → MatchOption result ((inside ≡ []) × (left ≡ [])) (λ last. inside ≡ left ++ last ∷ []) →
    reverse (map span_in_loop inside) ≡ inner ∷ outer → reverse (map span_in_loop left) ≡ outer
popped None inside left inner outer is known = let none = sym (ap (λ them. reverse (map span_in_loop them)) is.0) ∙ known in absurd (cc)
popped (Some last) inside left inner outer is known = let more = sym (loops-more left inside last is) ∙ known in cc

-- one of the instructions that the pass leaves out
pub left-out : (given : Given) (regs : List Ty) (made : Made) (x : List Inst) (inst : Inst) → is_word inst ≡ false →
    ((to place layout field : ℕ) (index : List ℕ) → inst ≡ v.ReadCell to place layout field index → ⊥) → ((to place : ℕ) (index : List ℕ) → inst ≡ v.IsActive to place index → ⊥) → ((var from : ℕ) → inst ≡ v.Set var from → ⊥) →
    ((layout field from stmt : ℕ) → inst ≡ v.OwnWrite layout field from stmt → ⊥) → ((how : AccOp) (layout field place from : ℕ) (index : List ℕ) (stmt : ℕ) → inst ≡ v.Acc how layout field place from index stmt → ⊥) →
    ((layout : ℕ) (index : List ℕ) (stmt : ℕ) → inst ≡ v.Want layout index stmt → ⊥) → ((cond : ℕ) (block otherwise : List Inst) → inst ≡ v.If cond block otherwise → ⊥) →
    ((var : ℕ) (lo hi : ℤ) (body : List Inst) → inst ≡ v.For var lo hi body → ⊥) →
    (rest : Block) → Goes made made x x (simplified given (link regs inst rest)) (simplified given rest)
left-out given regs made x inst word no_read no_ask no_set no_write no_acc no_want no_if no_for rest =
    by_inst (λ it. inst ≡ it → Goes made made x x (simplified given (link regs it rest)) (simplified given rest))
    (λ to w is. absurd (true≢false (sym (fold-Const word_step to w) ∙ ap is_word (sym is) ∙ word)))
    (λ to var is. absurd (true≢false (sym (fold-Var word_step to var) ∙ ap is_word (sym is) ∙ word)))
    (λ var from is. absurd (no_set var from is))
    (λ to how kind a b is. absurd (true≢false (sym (fold-Bin word_step to how kind a b) ∙ ap is_word (sym is) ∙ word)))
    (λ to how kind a is. absurd (true≢false (sym (fold-Un word_step to how kind a) ∙ ap is_word (sym is) ∙ word)))
    (λ to a b s is. absurd (true≢false (sym (fold-Mulq word_step to a b s) ∙ ap is_word (sym is) ∙ word)))
    (λ to layout is. gone _ _ (fold-Root (link_step regs) to layout) refl)
    (λ to place axis extent index is. gone _ _ (fold-Check (link_step regs) to place axis extent index) refl)
    (λ to div size from is. absurd (true≢false (sym (fold-Extract word_step to div size from) ∙ ap is_word (sym is) ∙ word)))
    (λ to high size low is. absurd (true≢false (sym (fold-Offset word_step to high size low) ∙ ap is_word (sym is) ∙ word)))
    (λ to place node offset is. gone _ _ (fold-Child (link_step regs) to place node offset) refl)
    (λ to place node offset is. gone _ _ (fold-HashChild (link_step regs) to place node offset) refl)
    (λ to place node offset is. gone _ _ (fold-MaskBit (link_step regs) to place node offset) refl)
    (λ to place node offset is. gone _ _ (fold-DynCell (link_step regs) to place node offset) refl)
    (λ to place layout field index is. absurd (no_read to place layout field index is))
    (λ to place index is. absurd (no_ask to place index is))
    (λ to layout field is. absurd (true≢false (sym (fold-OwnRead word_step to layout field) ∙ ap is_word (sym is) ∙ word)))
    (λ layout field from stmt is. absurd (no_write layout field from stmt is))
    (λ how layout field place from index stmt is. absurd (no_acc how layout field place from index stmt is))
    (λ layout index stmt is. absurd (no_want layout index stmt is))
    (λ cond block otherwise is. absurd (no_if cond block otherwise is))
    (λ var lo hi body is. absurd (no_for var lo hi body is))
    inst refl
  where
    gone : (l k : Link) → l ≡ k → simplified given (k rest) (pass_of made) (next_of made) ≡ simplified given rest (pass_of made) (next_of made) → Goes made made x x (simplified given (l rest)) (simplified given rest)
    gone l k is same = goes-here made made x (simplified given (l rest)) (simplified given rest) (longer-none made) (ap (λ (m : Link). simplified given (m rest) (pass_of made) (next_of made)) is ∙ same)

pub turn-goes : (given : Given) (regs : List Ty) (var : ℕ) (lo hi : ℤ) (body inside : List Inst) (old start mid new : Made) (x y : List Inst) → next_of start ≡ next_of old → pass_of start ≡ looped var lo hi (pass_of old) →
    IsMade given regs body inside start mid → next_of new ≡ next_of mid → pass_of new ≡ pass_of old → y ≡ x ++ v.For var lo hi inside ∷ [] →
    (rest : Block) → Goes old new x y (simplified given (Loop var lo hi (block_of regs body) rest)) (simplified given rest)
turn-goes given regs var lo hi body inside old start mid new x y begins looping made ends known put rest =
    goes-put old new x y (v.For var lo hi inside) (Loop var lo hi T.0) (simplified given (Loop var lo hi (block_of regs body) rest)) (simplified given rest) longer put links same
  where
    T : Block × Next
    T = simplified given (block_of regs body) (looped var lo hi (pass_of old)) (next_of old)

    turn_is : simplified given (block_of regs body) (pass_of start) (next_of start) ≡ T
    turn_is = ap (λ pass. simplified given (block_of regs body) pass (next_of start)) looping ∙ ap (simplified given (block_of regs body) (looped var lo hi (pass_of old))) begins

    same_types : types_of new ≡ types_of mid
    same_types = ap (λ (further : Next). further.types) ends

    longer : Longer old new
    longer = record {
      types = made.longer.types;
      more_types = same_types ∙ made.longer.more_types ∙ ap (λ (further : Next). further.types ++ made.longer.types) begins;
      ops = [];
      more_ops = ap (λ (pass : Pass). pass.ops) known ∙ append-none (pass_of old).ops;
      steps = [];
      more_steps = ap (λ (pass : Pass). pass.steps) known ∙ append-none (pass_of old).steps;
      loops = ap (λ (pass : Pass). pass.loops) known;
    }

    links : (more : List Ty) (behind : Block) → link (types_of new ++ more) (v.For var lo hi inside) behind ≡ Loop var lo hi T.0 behind
    links more behind =
        ap (λ (l : Link). l behind) (fold-For (link_step (types_of new ++ more)) var lo hi inside)
        ∙ ap (λ types. Loop var lo hi (block_of (types ++ more) inside) behind) same_types
        ∙ ap (λ (out : Block × Next). Loop var lo hi out.0 behind) (made.puts more ∙ turn_is)

    turn_next : next_of new ≡ T.1
    turn_next = ends ∙ ap (λ (out : Block × Next). out.1) (made.puts [] ∙ turn_is)

    same : simplified given (Loop var lo hi (block_of regs body) rest) (pass_of old) (next_of old) ≡ put_in_front (Loop var lo hi T.0) (simplified given rest (pass_of new) (next_of new))
    same =
        ap (λ next. put_in_front (Loop var lo hi T.0) (simplified given rest (pass_of old) next)) (sym turn_next)
        ∙ ap (λ pass. put_in_front (Loop var lo hi T.0) (simplified given rest pass (next_of new))) (sym known)

abbrev pub with_loops : Pass → List (ℕ × Span) → Pass
with_loops pass loops = record { ops = pass.ops; steps = pass.steps; loops = loops }
