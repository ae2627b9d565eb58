-- How often instructions set variables, in a table.
use Rattle.std.proofs.Common.{◌≡◌, ℕ, ◌+◌, ◌^◌, ◌<◌, ◌==◌, Bool, true, List, [], ◌∷◌, ◌++◌, map, refl, sym, ap, ◌∙◌, arith, ℤ}
use Rattle.std.specs.Prelude.{nat_lt}
use Rattle.std.specs.List.{list_all}
use Rattle.std.proofs.lemmas.Bool.{and_parts, and_from}
use Rattle.std.proofs.lemmas.Bool.Decides.{nat_tests}
use Rattle.sg_words.specs.declared.operators.Ty.{Ty}
use Rattle.sg_ir.specs.declared.code.Inst.{Inst}
use Rattle.sg_ir.specs.declared.code.Inst.TheVariants as v
use Rattle.sg_ir.specs.Blocks.{End, Link, link_step, link, block_of}
use Rattle.sg_ir.specs.Span.{sets}
use Rattle.sg_ir.proofs.Uses.{fold-Const, fold-Set, fold-If, fold-For}
use Rattle.sg_simplify.specs.steps.Counted.{one_where, words_step, has_words}
use Rattle.sg_simplify.specs.steps.Tally.{tally, TellsCounts}
use Rattle.sg_simplify.proofs.Tallying.{block_more}

pub counts-same : (a b : ℕ → ℕ) (entries : List (ℕ × Bool)) → ((v : ℕ) → a v ≡ b v) → TellsCounts a entries → TellsCounts b entries
counts-same a b entries same tells = λ var. tells var ∙ ap tally (same var)

pub const-words : (inst : Inst) (to word : ℕ) → inst ≡ v.Const to word → word < 2 ^ 32 → has_words inst ≡ true
const-words inst to word is small = ap has_words is ∙ fold-Const words_step to word ∙ low word small
  where
    low : (n : ℕ) → n < 2 ^ 32 → nat_lt n (2 ^ 32) ≡ true
    low n h = grind (arith, nat_tests)

pub words-more : (xs : List Inst) (inst : Inst) → list_all (λ b. b) (map has_words xs) ≡ true → has_words inst ≡ true → list_all (λ b. b) (map has_words (xs ++ inst ∷ [])) ≡ true
words-more [] inst all one = and_from (has_words inst) true one refl
words-more (x ∷ xs) inst all one =
    let parts = and_parts (has_words x) (list_all (λ b. b) (map has_words xs)) all in
    and_from (has_words x) (list_all (λ b. b) (map has_words (xs ++ inst ∷ []))) parts.0 (words-more xs inst parts.1 one)

no-more : (n : ℕ) → n + 0 ≡ n
no-more n = omega arith

pub set-count : (types : List Ty) (inst : Inst) (var from x : ℕ) → inst ≡ v.Set var from → one_where (var == x) ≡ sets x (link types inst End)
set-count types inst var from x is =
    sym (ap (λ it. sets x (link types it End)) is ∙ ap (λ (l : Link). sets x (l End)) (fold-Set (link_step types) var from) ∙ no-more (one_where (var == x)))

pub if-count : (types : List Ty) (inst : Inst) (cond : ℕ) (block otherwise : List Inst) (x n : ℕ) → inst ≡ v.If cond block otherwise →
    n + sets x (block_of types block) + sets x (block_of types otherwise) ≡ n + sets x (link types inst End)
if-count types inst cond block otherwise x n is =
    let e : sets x (link types inst End) ≡ sets x (block_of types block) + (sets x (block_of types otherwise) + 0) =
    ap (λ it. sets x (link types it End)) is ∙ ap (λ (l : Link). sets x (l End)) (fold-If (link_step types) cond block otherwise) in
    omega arith

pub for-count : (types : List Ty) (inst : Inst) (var : ℕ) (lo hi : ℤ) (body : List Inst) (x n : ℕ) → inst ≡ v.For var lo hi body →
    n + one_where (var == x) + sets x (block_of types body) ≡ n + sets x (link types inst End)
for-count types inst var lo hi body x n is =
    let e : sets x (link types inst End) ≡ one_where (var == x) + (sets x (block_of types body) + 0) =
    ap (λ it. sets x (link types it End)) is ∙ ap (λ (l : Link). sets x (l End)) (fold-For (link_step types) var lo hi body) in
    omega arith

pub more-count : (types : List Ty) (before behind : List Inst) (inst : Inst) (x n : ℕ) → behind ≡ before ++ inst ∷ [] →
    n + sets x (block_of types before) + sets x (link types inst End) ≡ n + sets x (block_of types behind)
more-count types before behind inst x n is =
    let e : sets x (block_of types behind) ≡ sets x (block_of types before) + sets x (link types inst End) = ap (λ insts. sets x (block_of types insts)) is ∙ block_more types before inst x in
    omega arith
