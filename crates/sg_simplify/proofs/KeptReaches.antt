-- Whatever is kept has, as a set of nodes, all that it needs.
use Rattle.std.specs.Prelude.{◌≡◌, refl, ℕ, ℤ, suc, ◌+◌, ◌*◌, ◌/◌, ◌%◌, ◌<◌, Bool, true, false, not, ◌&&◌, ◌||◌, List, [], ◌∷◌, ◌++◌, map, length, get_or}
use Rattle.std.proofs.Common.{arith, sym, ap, subst, ◌∙◌}
use Rattle.std.proofs.lemmas.Bool.{and_parts}
use Rattle.std.proofs.lemmas.Nat.{div-mul-add, mod-mul-add}
use Rattle.std.proofs.lemmas.List.{length-append, get_or_append_left, get_or-append-add}
use Rattle.sg_ir.specs.declared.op.Op.{Op}
use Rattle.sg_ir.specs.declared.op.Step.{Step}
use Rattle.sg_ir.specs.Blocks.{Sight, Block, End, Word, Spot, Cell, Do, Branch, Loop, Act, SetVar, WriteOwn, Contribute, Wish}
use Rattle.sg_ir.specs.InScope.{AreSet, op_regs, op_places, step_regs, step_places}
use Rattle.sg_words.specs.declared.spreads.Link.{Link}
use Rattle.sg_simplify.specs.Kept.{Keep, behind_where, is_end, kept_part, op_vars, ReadsKept}
use Rattle.sg_simplify.specs.steps.Needed.{reg_node, place_node, var_node, block_node, outermost, link_all, blocks_in, needs_of, left_in, marked_by, nodes_of}
use Rattle.sg_simplify.proofs.KeptTests.{clash, end_is}
use Rattle.sg_simplify.proofs.KeptAlong.{Along, along_both, leads, set_both, to_nodes}

-- ---- where a block's list of what is left stands in the list of the whole
abbrev pub At : List Bool → ℕ → List Bool → ℕ → Type 0
At whole place list n = (k : ℕ) → k < n → get_or whole (place + k) false ≡ get_or list k false

at_head : (whole : List Bool) (place : ℕ) (x : Bool) (list : List Bool) (n : ℕ) → At whole place (x ∷ list) (suc n) → get_or whole place false ≡ x
at_head whole place x list n at = let same : place ≡ place + 0 = omega arith in ap (λ m. get_or whole m false) same ∙ at 0 (omega arith)

at_tail : (whole : List Bool) (place : ℕ) (x : Bool) (list : List Bool) (n : ℕ) → At whole place (x ∷ list) (suc n) → At whole (suc place) list n
at_tail whole place x list n at k below = let same : suc place + k ≡ place + suc k = omega arith in ap (λ m. get_or whole m false) same ∙ at (suc k) (omega (arith, below))

at_left : (whole : List Bool) (place : ℕ) (xs ys : List Bool) (m n : ℕ) → length xs ≡ m → At whole place (xs ++ ys) (m + n) → At whole place xs m
at_left whole place xs ys m n len at k below = at k (omega (arith, below)) ∙ get_or_append_left xs ys false k (omega (arith, below, len))

at_right : (whole : List Bool) (place : ℕ) (xs ys : List Bool) (m n : ℕ) → length xs ≡ m → At whole place (xs ++ ys) (m + n) → At whole (place + m) ys n
at_right whole place xs ys m n len at k below =
    let same : place + m + k ≡ place + (length xs + k) = omega (arith, len) in
    ap (λ i. get_or whole i false) same ∙ (at (length xs + k) (omega (arith, below, len)) ∙ get_or-append-add xs ys k false)

left_length : (keep : Keep) (block : Block) → length (left_in keep block) ≡ blocks_in block
left_length keep End = refl
left_length keep (Word to how rest) = left_length keep rest
left_length keep (Spot to how rest) = left_length keep rest
left_length keep (Cell to place sight index rest) = left_length keep rest
left_length keep (Do what rest) = left_length keep rest
left_length keep (Branch cond block otherwise rest) =
    let a = left_length keep block in
    let b = left_length keep otherwise in
    let c = left_length keep rest in
    let d = length-append (left_in keep block) (left_in keep otherwise ++ left_in keep rest) in
    let e = length-append (left_in keep otherwise) (left_in keep rest) in
    let sum : length (left_in keep block ++ (left_in keep otherwise ++ left_in keep rest)) ≡ blocks_in block + (blocks_in otherwise + blocks_in rest) = omega (arith, a, b, c, d, e) in
    ap suc sum
left_length keep (Loop var lo hi body rest) =
    let a = left_length keep body in
    let c = left_length keep rest in
    let d = length-append (left_in keep body) (left_in keep rest) in
    let sum : length (left_in keep body ++ left_in keep rest) ≡ blocks_in body + blocks_in rest = omega (arith, a, c, d) in
    ap suc sum

-- ---- whatever is kept has what spreads
kind_at : (n k node : ℕ) → k < 4 → node ≡ n * 4 + k → (node % 4 ≡ k) × (node / 4 ≡ n)
kind_at n k node below e = (ap (λ m. m % 4) e ∙ mod-mul-add n 4 k below, ap (λ m. m / 4) e ∙ div-mul-add n 4 k below)

at_kind : (keep : Keep) (left : List Bool) (node kind n : ℕ) → (node % 4 ≡ kind) × (node / 4 ≡ n) → nodes_of keep left node ≡ marked_by keep left kind n
at_kind keep left node kind n is = ap (λ k. marked_by keep left k (node / 4)) is.0 ∙ ap (marked_by keep left kind) is.1

module _ (keep : Keep) (whole : List Bool) where
  abbrev pub marks : ℕ → Bool
  marks = nodes_of keep whole

  pub reg_is : (r : ℕ) → marks (reg_node r) ≡ keep.regs r
  reg_is r = at_kind keep whole (reg_node r) 0 r (kind_at r 0 (reg_node r) (omega arith) (omega arith))

  pub place_is : (p : ℕ) → marks (place_node p) ≡ keep.places p
  place_is p = at_kind keep whole (place_node p) 1 p (kind_at p 1 (place_node p) (omega arith) (omega arith))

  pub var_is : (v : ℕ) → marks (var_node v) ≡ keep.vars v
  var_is v = at_kind keep whole (var_node v) 2 v (kind_at v 2 (var_node v) (omega arith) (omega arith))

  block_is : (place : ℕ) → marks (block_node (suc place)) ≡ get_or whole place false
  block_is place = at_kind keep whole (block_node (suc place)) 3 (suc place) (kind_at (suc place) 3 (block_node (suc place)) (omega arith) (omega arith))

  pub outer_on : marks outermost ≡ true
  outer_on = refl

  reg_nodes : (rs : List ℕ) → AreSet keep.regs rs → AreSet marks (map reg_node rs)
  reg_nodes rs set = to_nodes marks reg_node keep.regs (λ r on. reg_is r ∙ on) rs set

  place_nodes : (ps : List ℕ) → AreSet keep.places ps → AreSet marks (map place_node ps)
  place_nodes ps set = to_nodes marks place_node keep.places (λ p on. place_is p ∙ on) ps set

  var_nodes : (vs : List ℕ) → AreSet keep.vars vs → AreSet marks (map var_node vs)
  var_nodes vs set = to_nodes marks var_node keep.vars (λ v on. var_is v ∙ on) vs set

  -- what is kept of a block needs what is kept
  abbrev pub Reaches : ℕ → ℕ → Block → Type 0
  Reaches here place block = At whole place (left_in keep block) (blocks_in block) → ReadsKept keep (kept_part keep block) → (is_end (kept_part keep block) ≡ false → marks here ≡ true) → Along marks (needs_of here (suc place) block)

  word_reaches : (here place to : ℕ) (how : Op) (rest : Block) → Reaches here place rest → Reaches here place (Word to how rest)
  word_reaches here place to how rest more at reads here_on = by_test (keep.regs to) refl reads here_on
    where
      nodes : List ℕ
      nodes = map reg_node (op_regs how) ++ (map place_node (op_places how) ++ (map var_node (op_vars how) ++ here ∷ []))

      left : Bool → Block
      left test = behind_where test (Word to how) (kept_part keep rest)

      by_test : (test : Bool) → keep.regs to ≡ test → ReadsKept keep (left test) → (is_end (left test) ≡ false → marks here ≡ true) → Along marks (link_all (reg_node to) nodes ++ needs_of here (suc place) rest)
      by_test true is read on =
          along_both marks (link_all (reg_node to) nodes) (needs_of here (suc place) rest)
          (leads marks (reg_node to) nodes (λ e. set_both marks (map reg_node (op_regs how)) (map place_node (op_places how) ++ (map var_node (op_vars how) ++ here ∷ [])) (reg_nodes (op_regs how) read.0)
          (set_both marks (map place_node (op_places how)) (map var_node (op_vars how) ++ here ∷ []) (place_nodes (op_places how) read.1)
          (set_both marks (map var_node (op_vars how)) (here ∷ []) (var_nodes (op_vars how) read.2) (on refl, tt)))))
          (more at read.3 (λ e. on refl))
      by_test false is read on =
          along_both marks (link_all (reg_node to) nodes) (needs_of here (suc place) rest)
          (leads marks (reg_node to) nodes (λ e. clash (keep.regs to) (sym (reg_is to) ∙ e) is))
          (more at read on)

  spot_reaches : (here place to : ℕ) (how : Step) (rest : Block) → Reaches here place rest → Reaches here place (Spot to how rest)
  spot_reaches here place to how rest more at reads here_on = by_test (keep.places to) refl reads here_on
    where
      nodes : List ℕ
      nodes = map reg_node (step_regs how) ++ (map place_node (step_places how) ++ here ∷ [])

      left : Bool → Block
      left test = behind_where test (Spot to how) (kept_part keep rest)

      by_test : (test : Bool) → keep.places to ≡ test → ReadsKept keep (left test) → (is_end (left test) ≡ false → marks here ≡ true) → Along marks (link_all (place_node to) nodes ++ needs_of here (suc place) rest)
      by_test true is read on =
          along_both marks (link_all (place_node to) nodes) (needs_of here (suc place) rest)
          (leads marks (place_node to) nodes (λ e. set_both marks (map reg_node (step_regs how)) (map place_node (step_places how) ++ here ∷ []) (reg_nodes (step_regs how) read.0)
          (set_both marks (map place_node (step_places how)) (here ∷ []) (place_nodes (step_places how) read.1) (on refl, tt))))
          (more at read.2 (λ e. on refl))
      by_test false is read on =
          along_both marks (link_all (place_node to) nodes) (needs_of here (suc place) rest)
          (leads marks (place_node to) nodes (λ e. clash (keep.places to) (sym (place_is to) ∙ e) is))
          (more at read on)

  cell_reaches : (here number to place : ℕ) (sight : Sight) (index : List ℕ) (rest : Block) → Reaches here number rest → Reaches here number (Cell to place sight index rest)
  cell_reaches here number to place sight index rest more at reads here_on = by_test (keep.regs to) refl reads here_on
    where
      left : Bool → Block
      left test = behind_where test (Cell to place sight index) (kept_part keep rest)

      first : List Link
      first = link_all (reg_node to) (place_node place ∷ here ∷ [])

      second : List Link
      second = link_all (reg_node to) (map reg_node index)

      by_test : (test : Bool) → keep.regs to ≡ test → ReadsKept keep (left test) → (is_end (left test) ≡ false → marks here ≡ true) → Along marks (first ++ (second ++ needs_of here (suc number) rest))
      by_test true is read on =
          along_both marks first (second ++ needs_of here (suc number) rest)
          (leads marks (reg_node to) (place_node place ∷ here ∷ []) (λ e. (place_is place ∙ read.1, (on refl, tt))))
          (along_both marks second (needs_of here (suc number) rest) (leads marks (reg_node to) (map reg_node index) (λ e. reg_nodes index read.0)) (more at read.2 (λ e. on refl)))
      by_test false is read on =
          along_both marks first (second ++ needs_of here (suc number) rest)
          (leads marks (reg_node to) (place_node place ∷ here ∷ []) (λ e. clash (keep.regs to) (sym (reg_is to) ∙ e) is))
          (along_both marks second (needs_of here (suc number) rest) (leads marks (reg_node to) (map reg_node index) (λ e. clash (keep.regs to) (sym (reg_is to) ∙ e) is)) (more at read on))

  do_reaches : (here place : ℕ) (what : Act) (rest : Block) → Reaches here place rest → Reaches here place (Do what rest)
  do_reaches here place (SetVar var from) rest more at reads here_on = by_test (keep.vars var) refl reads here_on
    where
      left : Bool → Block
      left test = behind_where test (Do (SetVar var from)) (kept_part keep rest)

      nodes : List ℕ
      nodes = reg_node from ∷ here ∷ []

      by_test : (test : Bool) → keep.vars var ≡ test → ReadsKept keep (left test) → (is_end (left test) ≡ false → marks here ≡ true) → Along marks (link_all (var_node var) nodes ++ needs_of here (suc place) rest)
      by_test true is read on =
          along_both marks (link_all (var_node var) nodes) (needs_of here (suc place) rest)
          (leads marks (var_node var) nodes (λ e. (reg_is from ∙ read.0.0, (on refl, tt)))) (more at read.2 (λ e. on refl))
      by_test false is read on =
          along_both marks (link_all (var_node var) nodes) (needs_of here (suc place) rest)
          (leads marks (var_node var) nodes (λ e. clash (keep.vars var) (sym (var_is var) ∙ e) is)) (more at read on)
  do_reaches here place (WriteOwn layout field from stmt) rest more at reads here_on =
      along_both marks (link_all outermost (reg_node from ∷ here ∷ [])) (needs_of here (suc place) rest)
      (leads marks outermost (reg_node from ∷ here ∷ []) (λ e. (reg_is from ∙ reads.0.0, (here_on refl, tt)))) (more at reads.2 (λ e. here_on refl))
  do_reaches here number (Contribute how layout field place from index stmt) rest more at reads here_on =
      along_both marks (link_all outermost (reg_node from ∷ place_node place ∷ here ∷ []) ++ link_all outermost (map reg_node index)) (needs_of here (suc number) rest)
      (along_both marks (link_all outermost (reg_node from ∷ place_node place ∷ here ∷ [])) (link_all outermost (map reg_node index))
      (leads marks outermost (reg_node from ∷ place_node place ∷ here ∷ []) (λ e. (reg_is from ∙ reads.0.0, (place_is place ∙ reads.1.0, (here_on refl, tt)))))
      (leads marks outermost (map reg_node index) (λ e. reg_nodes index reads.0.1)))
      (more at reads.2 (λ e. here_on refl))
  do_reaches here place (Wish layout index stmt) rest more at reads here_on =
      along_both marks (link_all outermost (here ∷ []) ++ link_all outermost (map reg_node index)) (needs_of here (suc place) rest)
      (along_both marks (link_all outermost (here ∷ [])) (link_all outermost (map reg_node index))
      (leads marks outermost (here ∷ []) (λ e. (here_on refl, tt))) (leads marks outermost (map reg_node index) (λ e. reg_nodes index reads.0)))
      (more at reads.2 (λ e. here_on refl))

  -- of a block of which nothing is left
  none_reads : (block : Block) → is_end (kept_part keep block) ≡ true → ReadsKept keep (kept_part keep block)
  none_reads block e = subst (ReadsKept keep) (sym (end_is (kept_part keep block) e)) tt

  branch_reaches : (here place cond : ℕ) (block otherwise rest : Block) → Reaches (block_node (suc place)) (suc place) block → Reaches (block_node (suc place)) (suc place + blocks_in block) otherwise
      → Reaches here (suc place + blocks_in block + blocks_in otherwise) rest → Reaches here place (Branch cond block otherwise rest)
  branch_reaches here place cond block otherwise rest one two more at reads here_on = by_test (is_end (kept_part keep block) && is_end (kept_part keep otherwise)) refl reads here_on
    where
      left : Bool → Block
      left none = behind_where (not none) (Branch cond (kept_part keep block) (kept_part keep otherwise)) (kept_part keep rest)

      node : ℕ
      node = block_node (suc place)

      a : List Link
      a = needs_of (block_node (suc place)) (suc (suc place)) block

      b : List Link
      b = needs_of (block_node (suc place)) (suc (suc place + blocks_in block)) otherwise

      c : List Link
      c = needs_of here (suc (suc place + blocks_in block + blocks_in otherwise)) rest

      list_a : List Bool
      list_a = left_in keep block

      list_bc : List Bool
      list_bc = left_in keep otherwise ++ left_in keep rest

      inside : At whole (suc place) (list_a ++ list_bc) (blocks_in block + (blocks_in otherwise + blocks_in rest))
      inside = at_tail whole place (not (is_end (kept_part keep block) && is_end (kept_part keep otherwise))) (list_a ++ list_bc) (blocks_in block + (blocks_in otherwise + blocks_in rest)) at

      at_one : At whole (suc place) list_a (blocks_in block)
      at_one = at_left whole (suc place) list_a list_bc (blocks_in block) (blocks_in otherwise + blocks_in rest) (left_length keep block) inside

      behind : At whole (suc place + blocks_in block) list_bc (blocks_in otherwise + blocks_in rest)
      behind = at_right whole (suc place) list_a list_bc (blocks_in block) (blocks_in otherwise + blocks_in rest) (left_length keep block) inside

      at_two : At whole (suc place + blocks_in block) (left_in keep otherwise) (blocks_in otherwise)
      at_two = at_left whole (suc place + blocks_in block) (left_in keep otherwise) (left_in keep rest) (blocks_in otherwise) (blocks_in rest) (left_length keep otherwise) behind

      at_three : At whole (suc place + blocks_in block + blocks_in otherwise) (left_in keep rest) (blocks_in rest)
      at_three = at_right whole (suc place + blocks_in block) (left_in keep otherwise) (left_in keep rest) (blocks_in otherwise) (blocks_in rest) (left_length keep otherwise) behind

      marked_is : marks (block_node (suc place)) ≡ not (is_end (kept_part keep block) && is_end (kept_part keep otherwise))
      marked_is = block_is place ∙ at_head whole place (not (is_end (kept_part keep block) && is_end (kept_part keep otherwise))) (list_a ++ list_bc) (blocks_in block + (blocks_in otherwise + blocks_in rest)) at

      all_along : Along marks (link_all (block_node (suc place)) (reg_node cond ∷ here ∷ [])) → Along marks a → Along marks b → Along marks c → Along marks (needs_of here (suc place) (Branch cond block otherwise rest))
      all_along p q r s = along_both marks (link_all (block_node (suc place)) (reg_node cond ∷ here ∷ [])) (a ++ (b ++ c)) p (along_both marks a (b ++ c) q (along_both marks b c r s))

      by_test : (none : Bool) → (is_end (kept_part keep block) && is_end (kept_part keep otherwise)) ≡ none → ReadsKept keep (left none) → (is_end (left none) ≡ false → marks here ≡ true)
          → Along marks (needs_of here (suc place) (Branch cond block otherwise rest))
      by_test true is read on =
          let parts = and_parts (is_end (kept_part keep block)) (is_end (kept_part keep otherwise)) is in
          let off : marks (block_node (suc place)) ≡ false = marked_is ∙ ap not is in
          all_along (leads marks (block_node (suc place)) (reg_node cond ∷ here ∷ []) (λ e. clash (marks (block_node (suc place))) e off))
          (one at_one (none_reads block parts.0) (λ e. clash (is_end (kept_part keep block)) parts.0 e))
          (two at_two (none_reads otherwise parts.1) (λ e. clash (is_end (kept_part keep otherwise)) parts.1 e))
          (more at_three read on)
      by_test false is read on =
          let inner : marks (block_node (suc place)) ≡ true = marked_is ∙ ap not is in
          all_along (leads marks (block_node (suc place)) (reg_node cond ∷ here ∷ []) (λ e. (reg_is cond ∙ read.0, (on refl, tt))))
          (one at_one read.1 (λ e. inner)) (two at_two read.2 (λ e. inner)) (more at_three read.3 (λ e. on refl))

  loop_reaches : (here place var : ℕ) (lo hi : ℤ) (body rest : Block) → Reaches (block_node (suc place)) (suc place) body → Reaches here (suc place + blocks_in body) rest → Reaches here place (Loop var lo hi body rest)
  loop_reaches here place var lo hi body rest turn more at reads here_on = by_test (keep.vars var) (is_end (kept_part keep body)) refl refl reads here_on
    where
      left : Bool → Bool → Block
      left known none = behind_where (known || not none) (Loop var lo hi (kept_part keep body)) (kept_part keep rest)

      a : List Link
      a = needs_of (block_node (suc place)) (suc (suc place)) body

      c : List Link
      c = needs_of here (suc (suc place + blocks_in body)) rest

      inside : At whole (suc place) (left_in keep body ++ left_in keep rest) (blocks_in body + blocks_in rest)
      inside = at_tail whole place (not (is_end (kept_part keep body))) (left_in keep body ++ left_in keep rest) (blocks_in body + blocks_in rest) at

      at_one : At whole (suc place) (left_in keep body) (blocks_in body)
      at_one = at_left whole (suc place) (left_in keep body) (left_in keep rest) (blocks_in body) (blocks_in rest) (left_length keep body) inside

      at_two : At whole (suc place + blocks_in body) (left_in keep rest) (blocks_in rest)
      at_two = at_right whole (suc place) (left_in keep body) (left_in keep rest) (blocks_in body) (blocks_in rest) (left_length keep body) inside

      marked_is : marks (block_node (suc place)) ≡ not (is_end (kept_part keep body))
      marked_is = block_is place ∙ at_head whole place (not (is_end (kept_part keep body))) (left_in keep body ++ left_in keep rest) (blocks_in body + blocks_in rest) at

      by_block : List Link
      by_block = link_all (block_node (suc place)) (var_node var ∷ here ∷ [])

      by_var : List Link
      by_var = link_all (var_node var) (here ∷ [])

      all_along : Along marks by_block → Along marks by_var → Along marks a → Along marks c → Along marks (needs_of here (suc place) (Loop var lo hi body rest))
      all_along p q r s = along_both marks by_block (by_var ++ (a ++ c)) p (along_both marks by_var (a ++ c) q (along_both marks a c r s))

      by_test : (known none : Bool) → keep.vars var ≡ known → is_end (kept_part keep body) ≡ none → ReadsKept keep (left known none) → (is_end (left known none) ≡ false → marks here ≡ true)
          → Along marks (needs_of here (suc place) (Loop var lo hi body rest))
      by_test true none is are read on =
          all_along (leads marks (block_node (suc place)) (var_node var ∷ here ∷ []) (λ e. (var_is var ∙ read.0, (on refl, tt)))) (leads marks (var_node var) (here ∷ []) (λ e. (on refl, tt)))
          (turn at_one read.1 (λ e. marked_is ∙ ap not e)) (more at_two read.2 (λ e. on refl))
      by_test false false is are read on = clash (keep.vars var) read.0 is
      by_test false true is are read on =
          let off : marks (block_node (suc place)) ≡ false = marked_is ∙ ap not are in
          all_along (leads marks (block_node (suc place)) (var_node var ∷ here ∷ []) (λ e. clash (marks (block_node (suc place))) e off))
          (leads marks (var_node var) (here ∷ []) (λ e. clash (keep.vars var) (sym (var_is var) ∙ e) is))
          (turn at_one (none_reads body are) (λ e. clash (is_end (kept_part keep body)) are e)) (more at_two read on)

  pub needs_reached : (here place : ℕ) (block : Block) → Reaches here place block
  needs_reached here place End = λ at reads on. refl
  needs_reached here place (Word to how rest) = word_reaches here place to how rest (needs_reached here place rest)
  needs_reached here place (Spot to how rest) = spot_reaches here place to how rest (needs_reached here place rest)
  needs_reached here number (Cell to place sight index rest) = cell_reaches here number to place sight index rest (needs_reached here number rest)
  needs_reached here place (Do what rest) = do_reaches here place what rest (needs_reached here place rest)
  needs_reached here place (Branch cond block otherwise rest) =
      branch_reaches here place cond block otherwise rest (needs_reached (block_node (suc place)) (suc place) block) (needs_reached (block_node (suc place)) (suc place + blocks_in block) otherwise)
      (needs_reached here (suc place + blocks_in block + blocks_in otherwise) rest)
  needs_reached here place (Loop var lo hi body rest) =
      loop_reaches here place var lo hi body rest (needs_reached (block_node (suc place)) (suc place) body) (needs_reached here (suc place + blocks_in body) rest)
