-- Instruction by instruction: what a block needs.
use Rattle.std.specs.Prelude.{◌≡◌, ℕ, ℤ, suc, ◌+◌, List, [], ◌∷◌, ◌++◌}
use Rattle.std.proofs.Common.{arith, sym, ap, ◌∙◌, append_assoc}
use Rattle.std.proofs.lemmas.List.{append-nil}
use Rattle.sg_words.specs.declared.operators.Ty.{Ty}
use Rattle.sg_ir.specs.declared.code.Inst.{Inst}
use Rattle.sg_ir.specs.declared.code.Inst.TheVariants as v
use Rattle.sg_ir.specs.Blocks.{Block, Link, link_step, link, block_of}
use Rattle.sg_ir.proofs.Uses.{fold-If, fold-For}
use Rattle.sg_words.specs.declared.spreads.Link.{Link as Needs}
use Rattle.sg_simplify.specs.steps.Needed.{reg_node, var_node, block_node, link_all, blocks_in, needs_of}

-- an instruction without blocks needs this, and what follows as much as before
pub one_needs : (types : List Ty) (inst : Inst) (l : Link) (list old new : List Needs) (inside n m : ℕ) (rest : Block) → link types inst ≡ l → needs_of inside n (l rest) ≡ list ++ needs_of inside n rest → new ≡ old ++ list → m ≡ n
    → old ++ needs_of inside n (link types inst rest) ≡ new ++ needs_of inside m rest
one_needs types inst l list old new inside n m rest is more made same =
    ap (λ (k : Link). old ++ needs_of inside n (k rest)) is
    ∙ (ap (λ links. old ++ links) more
    ∙ (sym (append_assoc old list (needs_of inside n rest))
    ∙ (ap (λ links. links ++ needs_of inside n rest) (sym made) ∙ ap (λ k. new ++ needs_of inside k rest) (sym same))))

pub one_count : (types : List Ty) (inst : Inst) (l : Link) (n m : ℕ) (rest : Block) → link types inst ≡ l → blocks_in (l rest) ≡ blocks_in rest → m ≡ n → m + blocks_in rest ≡ n + blocks_in (link types inst rest)
one_count types inst l n m rest is more same = ap (λ k. k + blocks_in rest) same ∙ (ap (λ k. n + k) (sym more) ∙ ap (λ (k : Link). n + blocks_in (k rest)) (sym is))

-- an `if`
pub if_needs : (types : List Ty) (inst : Inst) (cond : ℕ) (whole otherwise : List Inst) (old first second third : List Needs) (inside here n one two three : ℕ) (rest : Block) → inst ≡ v.If cond whole otherwise
    → here ≡ block_node n → one ≡ n + 1 → first ≡ old ++ link_all here (reg_node cond ∷ inside ∷ [])
    → first ++ needs_of here one (block_of types whole) ≡ second ++ [] → two + 0 ≡ one + blocks_in (block_of types whole)
    → second ++ needs_of here two (block_of types otherwise) ≡ third ++ [] → three + 0 ≡ two + blocks_in (block_of types otherwise)
    → old ++ needs_of inside n (link types inst rest) ≡ third ++ needs_of inside three rest
if_needs types inst cond whole otherwise old first second third inside here n one two three rest is node next begun left left_count right right_count =
    ap (λ it. old ++ needs_of inside n (link types it rest)) is
    ∙ (ap (λ (k : Link). old ++ needs_of inside n (k rest)) (fold-If (link_step types) cond whole otherwise)
    ∙ (ap (λ h. old ++ (link_all h (reg_node cond ∷ inside ∷ []) ++ (needs_of h (suc n) (block_of types whole) ++ (needs_of h (suc (n + blocks_in (block_of types whole))) (block_of types otherwise) ++ behind)))) (sym node)
    ∙ (ap (λ k. old ++ (head ++ (needs_of here k (block_of types whole) ++ (needs_of here (suc (n + blocks_in (block_of types whole))) (block_of types otherwise) ++ behind)))) one_is
    ∙ (ap (λ k. old ++ (head ++ (needs_of here one (block_of types whole) ++ (needs_of here k (block_of types otherwise) ++ behind)))) two_is
    ∙ (sym (append_assoc old head (a ++ (b ++ behind)))
    ∙ (ap (λ links. links ++ (a ++ (b ++ behind))) (sym begun)
    ∙ (sym (append_assoc first a (b ++ behind))
    ∙ (ap (λ links. links ++ (b ++ behind)) (left ∙ append-nil second)
    ∙ (sym (append_assoc second b behind)
    ∙ (ap (λ links. links ++ behind) (right ∙ append-nil third)
    ∙ ap (λ k. third ++ needs_of inside k rest) three_is))))))))))
  where
    head : List Needs
    head = link_all here (reg_node cond ∷ inside ∷ [])

    a : List Needs
    a = needs_of here one (block_of types whole)

    b : List Needs
    b = needs_of here two (block_of types otherwise)

    behind : List Needs
    behind = needs_of inside (suc (n + blocks_in (block_of types whole) + blocks_in (block_of types otherwise))) rest

    one_is : suc n ≡ one
    one_is = omega (arith, next)

    two_is : suc (n + blocks_in (block_of types whole)) ≡ two
    two_is = omega (arith, next, left_count)

    three_is : suc (n + blocks_in (block_of types whole) + blocks_in (block_of types otherwise)) ≡ three
    three_is = omega (arith, next, left_count, right_count)

pub if_count : (types : List Ty) (inst : Inst) (cond : ℕ) (whole otherwise : List Inst) (n one two three : ℕ) (rest : Block) → inst ≡ v.If cond whole otherwise → one ≡ n + 1
    → two + 0 ≡ one + blocks_in (block_of types whole) → three + 0 ≡ two + blocks_in (block_of types otherwise) → three + blocks_in rest ≡ n + blocks_in (link types inst rest)
if_count types inst cond whole otherwise n one two three rest is next left right =
    let e : blocks_in (link types inst rest) ≡ suc (blocks_in (block_of types whole) + (blocks_in (block_of types otherwise) + blocks_in rest)) =
    ap (λ it. blocks_in (link types it rest)) is ∙ ap (λ (k : Link). blocks_in (k rest)) (fold-If (link_step types) cond whole otherwise) in
    omega (arith, e, next, left, right)

-- a loop
pub for_needs : (types : List Ty) (inst : Inst) (var : ℕ) (lo hi : ℤ) (body : List Inst) (old first second third : List Needs) (inside here n one two : ℕ) (rest : Block) → inst ≡ v.For var lo hi body
    → here ≡ block_node n → one ≡ n + 1 → first ≡ old ++ link_all here (var_node var ∷ inside ∷ []) → second ≡ first ++ link_all (var_node var) (inside ∷ [])
    → second ++ needs_of here one (block_of types body) ≡ third ++ [] → two + 0 ≡ one + blocks_in (block_of types body)
    → old ++ needs_of inside n (link types inst rest) ≡ third ++ needs_of inside two rest
for_needs types inst var lo hi body old first second third inside here n one two rest is node next begun more turn turn_count =
    ap (λ it. old ++ needs_of inside n (link types it rest)) is
    ∙ (ap (λ (k : Link). old ++ needs_of inside n (k rest)) (fold-For (link_step types) var lo hi body)
    ∙ (ap (λ h. old ++ (link_all h (var_node var ∷ inside ∷ []) ++ (by_var ++ (needs_of h (suc n) (block_of types body) ++ behind)))) (sym node)
    ∙ (ap (λ k. old ++ (head ++ (by_var ++ (needs_of here k (block_of types body) ++ behind)))) one_is
    ∙ (sym (append_assoc old head (by_var ++ (a ++ behind)))
    ∙ (ap (λ links. links ++ (by_var ++ (a ++ behind))) (sym begun)
    ∙ (sym (append_assoc first by_var (a ++ behind))
    ∙ (ap (λ links. links ++ (a ++ behind)) (sym more)
    ∙ (sym (append_assoc second a behind)
    ∙ (ap (λ links. links ++ behind) (turn ∙ append-nil third)
    ∙ ap (λ k. third ++ needs_of inside k rest) two_is)))))))))
  where
    head : List Needs
    head = link_all here (var_node var ∷ inside ∷ [])

    by_var : List Needs
    by_var = link_all (var_node var) (inside ∷ [])

    a : List Needs
    a = needs_of here one (block_of types body)

    behind : List Needs
    behind = needs_of inside (suc (n + blocks_in (block_of types body))) rest

    one_is : suc n ≡ one
    one_is = omega (arith, next)

    two_is : suc (n + blocks_in (block_of types body)) ≡ two
    two_is = omega (arith, next, turn_count)

pub for_count : (types : List Ty) (inst : Inst) (var : ℕ) (lo hi : ℤ) (body : List Inst) (n one two : ℕ) (rest : Block) → inst ≡ v.For var lo hi body → one ≡ n + 1
    → two + 0 ≡ one + blocks_in (block_of types body) → two + blocks_in rest ≡ n + blocks_in (link types inst rest)
for_count types inst var lo hi body n one two rest is next turn =
    let e : blocks_in (link types inst rest) ≡ suc (blocks_in (block_of types body) + blocks_in rest) =
    ap (λ it. blocks_in (link types it rest)) is ∙ ap (λ (k : Link). blocks_in (k rest)) (fold-For (link_step types) var lo hi body) in
    omega (arith, e, next, turn)
