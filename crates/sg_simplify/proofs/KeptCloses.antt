-- What is marked with all that it needs is closed: what is left of a block reads what is kept.
use Rattle.std.specs.Prelude.{◌≡◌, refl, ℕ, ℤ, suc, ◌+◌, Bool, true, false, not, ◌&&◌, ◌||◌, List, [], ◌∷◌, ◌++◌, map}
use Rattle.std.proofs.Common.{sym}
use Rattle.sg_ir.specs.declared.op.Op.{Op}
use Rattle.sg_ir.specs.declared.op.Step.{Step}
use Rattle.sg_ir.specs.Blocks.{Sight, Block, End, Word, Spot, Cell, Do, Branch, Loop, Act, SetVar, WriteOwn, Contribute, Wish}
use Rattle.sg_ir.specs.InScope.{op_regs, op_places, step_regs, step_places}
use Rattle.sg_simplify.specs.Kept.{behind_where, is_end, kept_part, op_vars, ReadsKept}
use Rattle.sg_simplify.specs.steps.Needed.{reg_node, place_node, var_node, block_node, outermost, link_all, blocks_in, act_needs, needs_of, kept_by}
use Rattle.sg_simplify.proofs.KeptTests.{none_set, clash}
use Rattle.sg_simplify.proofs.KeptAlong.{Along, along_parts, reached, set_parts, of_nodes, not_both}

module _ (marked : ℕ → Bool) (on : marked outermost ≡ true) where
  -- what is left of a block reads what is kept, and where something is left the block's node is marked
  pub record Closed (here : ℕ) (block : Block) : Type 0 where
    pub reads : ReadsKept (kept_by marked) (kept_part (kept_by marked) block)
    pub here_on : is_end (kept_part (kept_by marked) block) ≡ false → marked here ≡ true

  word_closed : (here : ℕ) (to : ℕ) (how : Op) (rest : Block)
      → Along marked (link_all (reg_node to) (map reg_node (op_regs how) ++ (map place_node (op_places how) ++ (map var_node (op_vars how) ++ here ∷ []))))
      → Closed here rest → Closed here (Word to how rest)
  word_closed here to how rest along more = let it = at_all (marked (reg_node to)) refl in record { reads = it.0; here_on = it.1 }
    where
      left : Bool → Block
      left test = behind_where test (Word to how) (kept_part (kept_by marked) rest)

      at_all : (test : Bool) → marked (reg_node to) ≡ test → ReadsKept (kept_by marked) (left test) × (is_end (left test) ≡ false → marked here ≡ true)
      at_all true is =
          let set = reached marked (reg_node to) (map reg_node (op_regs how) ++ (map place_node (op_places how) ++ (map var_node (op_vars how) ++ here ∷ []))) along is in
          let one = set_parts marked (map reg_node (op_regs how)) (map place_node (op_places how) ++ (map var_node (op_vars how) ++ here ∷ [])) set in
          let two = set_parts marked (map place_node (op_places how)) (map var_node (op_vars how) ++ here ∷ []) one.1 in
          let three = set_parts marked (map var_node (op_vars how)) (here ∷ []) two.1 in
          ((of_nodes marked reg_node (op_regs how) one.0, of_nodes marked place_node (op_places how) two.0, of_nodes marked var_node (op_vars how) three.0, more.reads), λ e. three.1.0)
      at_all false is = (more.reads, more.here_on)

  spot_closed : (here : ℕ) (to : ℕ) (how : Step) (rest : Block)
      → Along marked (link_all (place_node to) (map reg_node (step_regs how) ++ (map place_node (step_places how) ++ here ∷ []))) → Closed here rest → Closed here (Spot to how rest)
  spot_closed here to how rest along more = let it = at_all (marked (place_node to)) refl in record { reads = it.0; here_on = it.1 }
    where
      left : Bool → Block
      left test = behind_where test (Spot to how) (kept_part (kept_by marked) rest)

      at_all : (test : Bool) → marked (place_node to) ≡ test → ReadsKept (kept_by marked) (left test) × (is_end (left test) ≡ false → marked here ≡ true)
      at_all true is =
          let set = reached marked (place_node to) (map reg_node (step_regs how) ++ (map place_node (step_places how) ++ here ∷ [])) along is in
          let one = set_parts marked (map reg_node (step_regs how)) (map place_node (step_places how) ++ here ∷ []) set in
          let two = set_parts marked (map place_node (step_places how)) (here ∷ []) one.1 in
          ((of_nodes marked reg_node (step_regs how) one.0, of_nodes marked place_node (step_places how) two.0, more.reads), λ e. two.1.0)
      at_all false is = (more.reads, more.here_on)

  cell_closed : (here : ℕ) (to place : ℕ) (sight : Sight) (index : List ℕ) (rest : Block)
      → Along marked (link_all (reg_node to) (place_node place ∷ here ∷ [])) → Along marked (link_all (reg_node to) (map reg_node index)) → Closed here rest → Closed here (Cell to place sight index rest)
  cell_closed here to place sight index rest along by_index more = let it = at_all (marked (reg_node to)) refl in record { reads = it.0; here_on = it.1 }
    where
      left : Bool → Block
      left test = behind_where test (Cell to place sight index) (kept_part (kept_by marked) rest)

      at_all : (test : Bool) → marked (reg_node to) ≡ test → ReadsKept (kept_by marked) (left test) × (is_end (left test) ≡ false → marked here ≡ true)
      at_all true is =
          let set = reached marked (reg_node to) (place_node place ∷ here ∷ []) along is in
          let more_set = reached marked (reg_node to) (map reg_node index) by_index is in
          ((of_nodes marked reg_node index more_set, set.0, more.reads), λ e. set.1.0)
      at_all false is = (more.reads, more.here_on)

  do_closed : (here : ℕ) (what : Act) (rest : Block) → Along marked (act_needs here what) → Closed here rest → Closed here (Do what rest)
  do_closed here (SetVar var from) rest along more = let it = at_all (marked (var_node var)) refl in record { reads = it.0; here_on = it.1 }
    where
      left : Bool → Block
      left test = behind_where test (Do (SetVar var from)) (kept_part (kept_by marked) rest)

      at_all : (test : Bool) → marked (var_node var) ≡ test → ReadsKept (kept_by marked) (left test) × (is_end (left test) ≡ false → marked here ≡ true)
      at_all true is = let set = reached marked (var_node var) (reg_node from ∷ here ∷ []) along is in (((set.0, tt), tt, more.reads), λ e. set.1.0)
      at_all false is = (more.reads, more.here_on)
  do_closed here (WriteOwn layout field from stmt) rest along more =
      let set = reached marked outermost (reg_node from ∷ here ∷ []) along on in
      record { reads = ((set.0, tt), tt, more.reads); here_on = λ e. set.1.0 }
  do_closed here (Contribute how layout field place from index stmt) rest along more =
      let parts = along_parts marked (link_all outermost (reg_node from ∷ place_node place ∷ here ∷ [])) (link_all outermost (map reg_node index)) along in
      let set = reached marked outermost (reg_node from ∷ place_node place ∷ here ∷ []) parts.0 on in
      let by_index = reached marked outermost (map reg_node index) parts.1 on in
      record { reads = ((set.0, of_nodes marked reg_node index by_index), (set.1.0, tt), more.reads); here_on = λ e. set.1.1.0 }
  do_closed here (Wish layout index stmt) rest along more =
      let parts = along_parts marked (link_all outermost (here ∷ [])) (link_all outermost (map reg_node index)) along in
      let set = reached marked outermost (here ∷ []) parts.0 on in
      let by_index = reached marked outermost (map reg_node index) parts.1 on in
      record { reads = (of_nodes marked reg_node index by_index, tt, more.reads); here_on = λ e. set.0 }

  branch_closed : (here inside cond : ℕ) (block otherwise rest : Block) → Along marked (link_all inside (reg_node cond ∷ here ∷ []))
      → Closed inside block → Closed inside otherwise → Closed here rest → Closed here (Branch cond block otherwise rest)
  branch_closed here inside cond block otherwise rest along one two more =
      let it = at_all (is_end (kept_part (kept_by marked) block) && is_end (kept_part (kept_by marked) otherwise)) refl in record { reads = it.0; here_on = it.1 }
    where
      left : Bool → Block
      left none = behind_where (not none) (Branch cond (kept_part (kept_by marked) block) (kept_part (kept_by marked) otherwise)) (kept_part (kept_by marked) rest)

      at_all : (none : Bool) → (is_end (kept_part (kept_by marked) block) && is_end (kept_part (kept_by marked) otherwise)) ≡ none
          → ReadsKept (kept_by marked) (left none) × (is_end (left none) ≡ false → marked here ≡ true)
      at_all true is = (more.reads, more.here_on)
      at_all false is =
          let inner : marked inside ≡ true = not_both (is_end (kept_part (kept_by marked) block)) (is_end (kept_part (kept_by marked) otherwise)) is (marked inside ≡ true) one.here_on two.here_on in
          let set = reached marked inside (reg_node cond ∷ here ∷ []) along inner in
          ((set.0, one.reads, two.reads, more.reads), λ e. set.1.0)

  loop_closed : (here inside var : ℕ) (lo hi : ℤ) (body rest : Block) → Along marked (link_all inside (var_node var ∷ here ∷ [])) → Along marked (link_all (var_node var) (here ∷ []))
      → Closed inside body → Closed here rest → Closed here (Loop var lo hi body rest)
  loop_closed here inside var lo hi body rest along by_var turn more =
      let it = at_all (marked (var_node var)) (is_end (kept_part (kept_by marked) body)) refl refl in record { reads = it.0; here_on = it.1 }
    where
      left : Bool → Bool → Block
      left known none = behind_where (known || not none) (Loop var lo hi (kept_part (kept_by marked) body)) (kept_part (kept_by marked) rest)

      at_all : (known none : Bool) → marked (var_node var) ≡ known → is_end (kept_part (kept_by marked) body) ≡ none → ReadsKept (kept_by marked) (left known none) × (is_end (left known none) ≡ false → marked here ≡ true)
      at_all true none is are =
          let set = reached marked (var_node var) (here ∷ []) by_var is in
          ((is, turn.reads, more.reads), λ e. set.0)
      at_all false false is are = let set = reached marked inside (var_node var ∷ here ∷ []) along (turn.here_on are) in clash (marked (var_node var)) set.0 is
      at_all false true is are = (more.reads, more.here_on)

  pub needs_close : (here next : ℕ) (block : Block) → Along marked (needs_of here next block) → Closed here block
  needs_close here next End along = record { reads = tt; here_on = λ e. none_set (sym e) }
  needs_close here next (Word to how rest) along =
      let parts = along_parts marked (link_all (reg_node to) (map reg_node (op_regs how) ++ (map place_node (op_places how) ++ (map var_node (op_vars how) ++ here ∷ [])))) (needs_of here next rest) along in
      word_closed here to how rest parts.0 (needs_close here next rest parts.1)
  needs_close here next (Spot to how rest) along =
      let parts = along_parts marked (link_all (place_node to) (map reg_node (step_regs how) ++ (map place_node (step_places how) ++ here ∷ []))) (needs_of here next rest) along in
      spot_closed here to how rest parts.0 (needs_close here next rest parts.1)
  needs_close here next (Cell to place sight index rest) along =
      let first = along_parts marked (link_all (reg_node to) (place_node place ∷ here ∷ [])) (link_all (reg_node to) (map reg_node index) ++ needs_of here next rest) along in
      let second = along_parts marked (link_all (reg_node to) (map reg_node index)) (needs_of here next rest) first.1 in
      cell_closed here to place sight index rest first.0 second.0 (needs_close here next rest second.1)
  needs_close here next (Do what rest) along =
      let parts = along_parts marked (act_needs here what) (needs_of here next rest) along in
      do_closed here what rest parts.0 (needs_close here next rest parts.1)
  needs_close here next (Branch cond block otherwise rest) along =
      let a = needs_of (block_node next) (suc next) block in
      let b = needs_of (block_node next) (suc (next + blocks_in block)) otherwise in
      let c = needs_of here (suc (next + blocks_in block + blocks_in otherwise)) rest in
      let first = along_parts marked (link_all (block_node next) (reg_node cond ∷ here ∷ [])) (a ++ (b ++ c)) along in
      let second = along_parts marked a (b ++ c) first.1 in
      let third = along_parts marked b c second.1 in
      branch_closed here (block_node next) cond block otherwise rest first.0 (needs_close (block_node next) (suc next) block second.0)
      (needs_close (block_node next) (suc (next + blocks_in block)) otherwise third.0) (needs_close here (suc (next + blocks_in block + blocks_in otherwise)) rest third.1)
  needs_close here next (Loop var lo hi body rest) along =
      let a = needs_of (block_node next) (suc next) body in
      let c = needs_of here (suc (next + blocks_in body)) rest in
      let first = along_parts marked (link_all (block_node next) (var_node var ∷ here ∷ [])) (link_all (var_node var) (here ∷ []) ++ (a ++ c)) along in
      let second = along_parts marked (link_all (var_node var) (here ∷ [])) (a ++ c) first.1 in
      let third = along_parts marked a c second.1 in
      loop_closed here (block_node next) var lo hi body rest first.0 second.0 (needs_close (block_node next) (suc next) body third.0) (needs_close here (suc (next + blocks_in body)) rest third.1)
