-- What is read as a kernel is one, and the tokens that were taken are its tokens.
use Rattle.std.specs.Prelude.{◌≡◌, refl, ◌≤◌, true, ◌&&◌, nat_le, List, ◌∷◌, ◌++◌, map, length, Option, Some, None}
use Rattle.std.specs.List.{AllByRecursion, list_all}
use Rattle.std.proofs.Common.{◌∙◌, ap, subst}
use Rattle.std.proofs.lemmas.Bool.{and_from, le-leb}
use Rattle.std.proofs.lemmas.Option.{same_Some}
use Rattle.sg_ast.specs.declared.token.Name.{Name}
use Rattle.sg_ast.specs.declared.token.Word.TheVariants as w
use Rattle.sg_ast.specs.declared.token.Sign.TheVariants as s
use Rattle.sg_ast.specs.declared.token.Token.{Token}
use Rattle.sg_ast.specs.declared.token.Token.TheVariants as t
use Rattle.sg_ast.specs.declared.stmt.RangeDecl.{RangeDecl}
use Rattle.sg_ast.specs.declared.stmt.Stmt.{Stmt}
use Rattle.sg_ast.specs.declared.kernel.DomainDecl.{DomainDecl}
use Rattle.sg_ast.specs.declared.kernel.DomainDecl.TheVariants as domain
use Rattle.sg_ast.specs.declared.kernel.KernelDecl.{KernelDecl}
use Rattle.sg_ast.specs.declared.program.Item.{Item}
use Rattle.sg_ast.specs.declared.program.Item.TheVariants as item
use Rattle.sg_ast.specs.Token.{is_name}
use Rattle.sg_ast.specs.Expr.{with_commas}
use Rattle.sg_ast.specs.Stmt.{range_tokens, block_tokens, nesting}
use Rattle.sg_ast.specs.Kernel.{domain_tokens}
use Rattle.sg_ast.specs.Program.{item_tokens}
use Rattle.sg_ast.specs.Limits.{max_nesting, most_listed_axes}
use Rattle.sg_ast.specs.Grammar.{one_to, is_range, is_stmt, is_domain, is_item}
use Rattle.sg_parser.specs.Front.{after_sign, after_word, next_name, comma_list}
use Rattle.sg_words.specs.Options.{only_if, ◌>>=◌}
use Rattle.sg_parser.specs.ReadStmt.{read_range, read_block}
use Rattle.sg_parser.specs.ReadItem.{lone_name, domain_on, read_domain, kernel_head, kernel_loop, read_kernel}
use Rattle.sg_parser.proofs.StepLemmas.{bind_some, only_if_some, after_sign_is, after_word_is, next_name_is}
use Rattle.sg_parser.proofs.ListLemmas.{listed_sound}
use Rattle.sg_parser.proofs.StmtSound.{GoodRange, GoodBlock, made_is, made_two, range_sound, block_at_sound}
use Rattle.sg_parser.proofs.ItemParts.{IsGood, one_to_from, name_token, kernel_parts, name_sound}

domain_sound : (tokens : List Token) (a : DomainDecl) (rest : List Token) → read_domain tokens ≡ Some (a, rest) → (is_domain a ≡ true) × (tokens ≡ domain_tokens a ++ rest)
unfolding read_domain
domain_sound tokens a rest h = go (lone_name tokens) refl h where
  go : (o : Option (Name × List Token)) → lone_name tokens ≡ o → domain_on tokens o ≡ Some (a, rest) → (is_domain a ≡ true) × (tokens ≡ domain_tokens a ++ rest)
  go None is h =
      let p = bind_some (comma_list read_range tokens) (λ (ranges : List RangeDecl × List Token). only_if (nat_le (length ranges.0) most_listed_axes) (Some (domain.Ranges ranges.0, ranges.1))) (a, rest) h in
      let q = only_if_some (nat_le (length p.0.0) most_listed_axes) (Some (domain.Ranges p.0.0, p.0.1)) (a, rest) p.2 in
      let ranges = listed_sound RangeDecl read_range range_tokens GoodRange range_sound tokens p.0.0 p.0.1 p.1 in
      made_is (λ (a : DomainDecl) (rest : List Token). (is_domain a ≡ true) × (tokens ≡ domain_tokens a ++ rest)) (domain.Ranges p.0.0) a p.0.1 rest (one_to_from most_listed_axes is_range p.0.0 ranges.0 q.0 ranges.1, ranges.2) q.1
  go (Some name) is h =
      let p = bind_some (next_name tokens) (λ (name : Name × List Token). after_sign s.OpenBrace name.1 >>= λ brace. Some name) name is in
      let q = bind_some (after_sign s.OpenBrace p.0.1) (λ (brace : List Token). Some p.0) name p.2 in
      let read = next_name_is tokens p.0.1 p.0.0 p.1 in
      let same = same_Some {A = Name × List Token} p.0 name q.2 in
      made_is (λ (a : DomainDecl) (rest : List Token). (is_domain a ≡ true) × (tokens ≡ domain_tokens a ++ rest)) (domain.Layout name.0) a name.1 rest
      (subst (λ (q : Name × List Token). (is_name q.0 ≡ true) × (tokens ≡ t.Name q.0 ∷ q.1)) same (read.1, read.0)) h

-- `NAME { for VARIABLES in`, and what comes after it
abbrev IsKernelHead : List Token → Name → List Name → List Token → Type 0
IsKernelHead tokens name vars rest = (is_name name ≡ true) × (1 ≤ length vars) × AllByRecursion (IsGood is_name) vars
    × (tokens ≡ t.Name name ∷ t.Sign s.OpenBrace ∷ t.Word w.For ∷ (with_commas (map name_token vars) ++ t.Word w.In ∷ rest))

kernel_head_sound : (tokens : List Token) (name : Name) (vars : List Name) (rest : List Token) → kernel_head tokens ≡ Some (name, vars, rest) → IsKernelHead tokens name vars rest
unfolding kernel_head
kernel_head_sound tokens name vars rest h =
    let p = bind_some (next_name tokens) _ (name, vars, rest) h in
    let q = bind_some (after_sign s.OpenBrace p.0.1) _ (name, vars, rest) p.2 in
    let r = bind_some (after_word w.For q.0) _ (name, vars, rest) q.2 in
    let o = bind_some (comma_list next_name r.0) _ (name, vars, rest) r.2 in
    let u = bind_some (after_word w.In o.0.1) _ (name, vars, rest) o.2 in
    let first = next_name_is tokens p.0.1 p.0.0 p.1 in
    let brace = after_sign_is s.OpenBrace p.0.1 q.0 q.1 in
    let word = after_word_is w.For q.0 r.0 r.1 in
    let list = listed_sound Name next_name name_token (IsGood is_name) name_sound r.0 o.0.0 o.0.1 o.1 in
    let over = after_word_is w.In o.0.1 u.0 u.1 in
    made_two (IsKernelHead tokens) p.0.0 name o.0.0 vars u.0 rest (
      first.1,
      list.0,
      list.1,
      first.0 ∙ ap (λ k. t.Name p.0.0 ∷ k) (brace ∙ ap (λ k. t.Sign s.OpenBrace ∷ k) (word ∙ ap (λ k. t.Word w.For ∷ k)
          (list.2 ∙ ap (λ k. with_commas (map name_token o.0.0) ++ k) over))),
    ) u.2

-- `DOMAIN BLOCK }`, and what comes after it
abbrev IsKernelLoop : List Token → DomainDecl → List Stmt → List Token → Type 0
IsKernelLoop tokens domain body rest = (is_domain domain ≡ true) × GoodBlock max_nesting body
    × (tokens ≡ domain_tokens domain ++ (block_tokens body ++ t.Sign s.CloseBrace ∷ rest))

kernel_loop_sound : (tokens : List Token) (domain : DomainDecl) (body : List Stmt) (rest : List Token) → kernel_loop tokens ≡ Some (domain, body, rest) → IsKernelLoop tokens domain body rest
unfolding kernel_loop
kernel_loop_sound tokens domain body rest h =
    let p = bind_some (read_domain tokens) _ (domain, body, rest) h in
    let q = bind_some (read_block p.0.1) _ (domain, body, rest) p.2 in
    let r = bind_some (after_sign s.CloseBrace q.0.1) _ (domain, body, rest) q.2 in
    let first = domain_sound tokens p.0.0 p.0.1 p.1 in
    let block = block_at_sound max_nesting p.0.1 q.0.0 q.0.1 q.1 in
    let end = after_sign_is s.CloseBrace q.0.1 r.0 r.1 in
    made_two (IsKernelLoop tokens) p.0.0 domain q.0.0 body r.0 rest
    (first.0, block.0, first.1 ∙ ap (λ k. domain_tokens p.0.0 ++ k) (block.1 ∙ ap (λ k. block_tokens q.0.0 ++ k) end)) r.2

pub kernel_sound : (tokens : List Token) (a : Item) (rest : List Token) → read_kernel tokens ≡ Some (a, rest) → (is_item a ≡ true) × (t.Word w.Kernel ∷ tokens ≡ item_tokens a ++ rest)
unfolding read_kernel
kernel_sound tokens a rest h =
    let p = bind_some (kernel_head tokens) _ (a, rest) h in
    let q = bind_some (kernel_loop p.0.2) _ (a, rest) p.2 in
    let made : KernelDecl = record { name = p.0.0; vars = p.0.1; domain = q.0.0; body = q.0.1 } in
    let few = only_if_some (nat_le (length p.0.1) most_listed_axes) (Some (item.Kernel made, q.0.2)) (a, rest) q.2 in
    let head = kernel_head_sound tokens p.0.0 p.0.1 p.0.2 p.1 in
    let inner = kernel_loop_sound p.0.2 q.0.0 q.0.1 q.0.2 q.1 in
    made_is (λ (a : Item) (rest : List Token). (is_item a ≡ true) × (t.Word w.Kernel ∷ tokens ≡ item_tokens a ++ rest)) (item.Kernel made) a q.0.2 rest (
      and_from (is_name p.0.0 && one_to most_listed_axes is_name p.0.1) _ (and_from (is_name p.0.0) (one_to most_listed_axes is_name p.0.1) head.0 (one_to_from most_listed_axes is_name p.0.1 head.1 few.0 head.2))
          (and_from (is_domain q.0.0) _ inner.0 (and_from (list_all is_stmt q.0.1) (nat_le (nesting q.0.1) max_nesting) inner.1.good (le-leb (nesting q.0.1) max_nesting inner.1.shallow))),
      rw (kernel_parts made q.0.2) (ap (λ k. t.Word w.Kernel ∷ k)
          (head.3 ∙ ap (λ k. t.Name p.0.0 ∷ t.Sign s.OpenBrace ∷ t.Word w.For ∷ (with_commas (map name_token p.0.1) ++ t.Word w.In ∷ k)) inner.2)),
    ) few.1
