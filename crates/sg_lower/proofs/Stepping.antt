-- What statements do, from the instruction that is emitted last.
use Rattle.std.proofs.Common.{◌≡◌, ℕ, ◌≤◌, Bool, true, false, not, ◌&&◌, ◌||◌, ◌==◌, if◌then◌else◌, nat_le, ℤ, List, [], ◌∷◌, ◌++◌, map, fold, length, Option, Some, refl, sym, ap, subst, ◌∙◌}
use Rattle.std.specs.List.{list_all}
use Rattle.std.proofs.lemmas.Bool.{and_parts, both_ways, leb-true}
use Rattle.std.proofs.lemmas.List.{map-append}
use Rattle.std.proofs.lemmas.List.Sums.{fold-append}
use Rattle.std.proofs.lemmas.List.Elements.{All-push}
use Rattle.sg_words.specs.declared.operators.AccOp.{AccOp}
use Rattle.sg_words.specs.declared.operators.Ty.TheVariants as ty
use Rattle.sg_words.specs.Words.{number, word_of}
use Rattle.sg_coord.specs.declared.coord.Coord.{Coord}
use Rattle.sg_layout.specs.declared.shape.Shape.{Shape}
use Rattle.sg_flat.specs.declared.effects.Way.{Way}
use Rattle.sg_flat.specs.declared.effects.Way.TheVariants as way
use Rattle.sg_flat.specs.declared.effects.Write.{Write}
use Rattle.sg_flat.specs.Domain.{numbers}
use Rattle.sg_types.specs.declared.typed.TypedExpr.{TypedExpr}
use Rattle.sg_types.specs.declared.typed.TypedRange.{TypedRange}
use Rattle.sg_types.specs.declared.typed.TypedKind.{TypedKind}
use Rattle.sg_types.specs.declared.typed.TypedKind.TheVariants as kind
use Rattle.sg_types.specs.declared.typed.TypedStmt.{TypedStmt}
use Rattle.sg_types.specs.Expressions.{equals_some}
use Rattle.sg_types.specs.WellTyped.{axes_in}
use Rattle.sg_types.specs.Values.{World, Moment, is_own, coord_of, expr_word}
use Rattle.sg_types.specs.Iterations.{StmtAction, set_var, add_write, run_all, range_numbers, action_of}
use Rattle.sg_types.proofs.Uses.{action-Let, action-Assign, action-Write, action-If, action-For}
use Rattle.sg_ir.specs.declared.code.Inst.{Inst}
use Rattle.sg_ir.specs.declared.code.Inst.TheVariants as v
use Rattle.sg_ir.specs.declared.names.Names.{Names}
use Rattle.sg_ir.specs.Runs as ir
use Rattle.sg_ir.specs.Runs.{Seen, Place, Moved, actions_in_turn, at_of, named_by, does, runs}
use Rattle.sg_ir.specs.Places.{place_at}
use Rattle.sg_ir.specs.Named.{IsNamedAccess}
use Rattle.sg_ir.specs.Emits.{LeadsToPlace}
use Rattle.sg_ir.proofs.Uses.{runs-more, does-Set, does-OwnWrite, does-Acc, does-Want, does-If, does-For}
use Rattle.sg_admit.specs.Bounds.{is_constant, is_constant_range, constant_word}
use Rattle.sg_lower.specs.Lowered.{code_write, want_of}
use Rattle.sg_lower.specs.steps.Basis.{Basis, is_owned}
use Rattle.sg_lower.specs.steps.Fitting.{can_be_lowered, is_own_index, write_fits, stmt_fits, write_stmt}
use Rattle.sg_lower.specs.steps.Agreeing.{inside_or_none, IsWorld, IsPoint, seen_of, AgreesWithIteration, Values, AllValues, Steps}
use Rattle.sg_lower.proofs.Fitted.{fits-Let, fits-Assign, fits-Write, fits-If, fits-For}
use Rattle.sg_lower.proofs.Simulating.{extends-trans}
use Rattle.sg_lower.proofs.CellReads.{placed, access_named, own_coord}
use Rattle.sg_lower.proofs.ConstantBounds.{constant_there}
use Rattle.sg_lower.proofs.Telling.{word_small, agrees-set, agrees-written, agrees-wanted}

-- a claim on a statement, from that on the statement of its number and kind
pub of_kind : (P : TypedStmt → Type 0) (stmt : TypedStmt) (it : TypedKind) → stmt.kind ≡ it → P (record { number = stmt.number; kind = it }) → P stmt
of_kind P stmt it is p = subst (λ (kind : TypedKind). P (record { number = stmt.number; kind = kind })) (sym is) p

module _ (basis : Basis) where
  pub steps-same : (action other : World → Moment → Moment) (a z : List Inst) → ((world : World) (now : Moment) → action world now ≡ other world now) → Steps basis other a z → Steps basis action a z
  steps-same action other a z same steps = λ world is at point now start agrees.
      subst (λ (after : Moment). AgreesWithIteration basis at after (runs (seen_of world at) z start)) (sym (same world now)) (steps world is at point now start agrees)

  -- a run of a block with one more instruction
  ran : (b z : List Inst) (inst : Inst) → z ≡ b ++ inst ∷ [] → (seen : Seen) (start : Moved) → runs seen z start ≡ does seen inst (runs seen b start)
  ran b z inst pushed seen start = ap (λ (block : List Inst). runs seen block start) pushed ∙ runs-more seen b inst start

  pub steps-set : (var : ℕ) (value : TypedExpr) (r : ℕ) (old new : Names) (a b z : List Inst) → basis.vars ≤ var → Values basis value r old new a b → z ≡ b ++ v.Set var r ∷ []
      → Steps basis (λ world now. set_var var (expr_word world now value) now) a z
  steps-set var value r old new a b z past values pushed = λ world is at point now start agrees.
      let seen = seen_of world at in
      let shows = values.value world is at point now start agrees in
      let word = expr_word world now value in
      let done : runs seen z start ≡ ir.set_var_word var word (runs seen b start) =
      ran b z (v.Set var r) pushed seen start ∙ (does-Set seen var r (runs seen b start) ∙ ap (λ (w : ℕ). ir.set_var_word var w (runs seen b start)) shows.holds) in
      subst (λ (moved : Moved). AgreesWithIteration basis at (set_var var word now) moved) (sym done) (agrees-set basis at now (runs seen b start) var word past shows.small shows.agrees)

  pub steps-if : (condition : TypedExpr) (block otherwise : List TypedStmt) (r : ℕ) (old new : Names) (a b z ys ns : List Inst) → Values basis condition r old new a b
      → Steps basis (λ world now. run_all (map (action_of world) block) now) [] ys → Steps basis (λ world now. run_all (map (action_of world) otherwise) now) [] ns → z ≡ b ++ v.If r ys ns ∷ []
      → Steps basis (λ world now. run_all (if expr_word world now condition == 0 then map (action_of world) otherwise else map (action_of world) block) now) a z
  steps-if condition block otherwise r old new a b z ys ns values yes_steps no_steps pushed = λ world is at point now start agrees.
      let seen = seen_of world at in
      let shows = values.value world is at point now start agrees in
      let moved = runs seen b start in
      let done : runs seen z start ≡ actions_in_turn (if expr_word world now condition == 0 then map (does seen) ns else map (does seen) ys) moved =
      ran b z (v.If r ys ns) pushed seen start ∙ (does-If seen r ys ns moved ∙ ap (λ (w : ℕ). actions_in_turn (if w == 0 then map (does seen) ns else map (does seen) ys) moved) shows.holds) in
      subst (λ (m : Moved). AgreesWithIteration basis at (run_all (if expr_word world now condition == 0 then map (action_of world) otherwise else map (action_of world) block) now) m) (sym done)
      (either world at now moved (expr_word world now condition == 0) (no_steps world is at point now moved shows.agrees) (yes_steps world is at point now moved shows.agrees))
    where
      either : (world : World) (at : Coord) (now : Moment) (moved : Moved) (b : Bool)
          → AgreesWithIteration basis at (run_all (map (action_of world) otherwise) now) (runs (seen_of world at) ns moved)
          → AgreesWithIteration basis at (run_all (map (action_of world) block) now) (runs (seen_of world at) ys moved)
          → AgreesWithIteration basis at (run_all (if b then map (action_of world) otherwise else map (action_of world) block) now) (actions_in_turn (if b then map (does (seen_of world at)) ns else map (does (seen_of world at)) ys) moved)
      either world at now moved true n y = n
      either world at now moved false n y = y

  turns_step : (body : List TypedStmt) (var : ℕ) (bs : List Inst) → basis.vars ≤ var → Steps basis (λ world now. run_all (map (action_of world) body) now) [] bs
      → (world : World) → IsWorld basis.shapes world → (at : Coord) → IsPoint basis.vars at → (turns : List ℤ) (now : Moment) (moved : Moved) → AgreesWithIteration basis at now moved
      → AgreesWithIteration basis at (fold (λ reached turn. run_all (map (action_of world) body) (set_var var (word_of turn) reached)) now turns)
      (fold (λ reached turn. actions_in_turn (map (does (seen_of world at)) bs) (ir.set_var_word var (word_of turn) reached)) moved turns)
  turns_step body var bs past steps world is at point [] now moved agrees = agrees
  turns_step body var bs past steps world is at point (turn ∷ turns) now moved agrees =
      turns_step body var bs past steps world is at point turns (run_all (map (action_of world) body) (set_var var (word_of turn) now)) (actions_in_turn (map (does (seen_of world at)) bs) (ir.set_var_word var (word_of turn) moved))
      (steps world is at point (set_var var (word_of turn) now) (ir.set_var_word var (word_of turn) moved) (agrees-set basis at now moved var (word_of turn) past (word_small turn) agrees))

  pub steps-for : (var : ℕ) (range : TypedRange) (body : List TypedStmt) (lo hi : ℤ) (a z bs : List Inst) → basis.vars ≤ var → is_constant_range range ≡ true
      → lo ≡ number ty.I32 (constant_word range.lo) → hi ≡ number ty.I32 (constant_word range.hi)
      → Steps basis (λ world now. run_all (map (action_of world) body) now) [] bs → z ≡ a ++ v.For var lo hi bs ∷ []
      → Steps basis (λ world now. fold (λ reached turn. run_all (map (action_of world) body) (set_var var (word_of turn) reached)) now (range_numbers world now range)) a z
  steps-for var range body lo hi a z bs past constant lo_is hi_is steps pushed = λ world is at point now start agrees.
      let seen = seen_of world at in
      let moved = runs seen a start in
      let ends = and_parts (is_constant range.lo) (is_constant range.hi) constant in
      let same : numbers lo hi ≡ range_numbers world now range =
      ap (λ (n : ℤ). numbers n hi) (lo_is ∙ ap (number ty.I32) (sym (constant_there world now range.lo ends.0)))
      ∙ ap (λ (n : ℤ). numbers (number ty.I32 (expr_word world now range.lo)) n) (hi_is ∙ ap (number ty.I32) (sym (constant_there world now range.hi ends.1))) in
      let done : runs seen z start ≡ fold (λ reached turn. actions_in_turn (map (does seen) bs) (ir.set_var_word var (word_of turn) reached)) moved (range_numbers world now range) =
      ran a z (v.For var lo hi bs) pushed seen start ∙ (does-For seen var lo hi bs moved ∙ ap (λ (turns : List ℤ). fold (λ reached turn. actions_in_turn (map (does seen) bs) (ir.set_var_word var (word_of turn) reached)) moved turns) same) in
      subst (λ (m : Moved). AgreesWithIteration basis at (fold (λ reached turn. run_all (map (action_of world) body) (set_var var (word_of turn) reached)) now (range_numbers world now range)) m) (sym done)
      (turns_step body var bs past steps world is at point (range_numbers world now range) now moved agrees)

  -- the write that a statement makes
  abbrev write_of : ℕ → ℕ → ℕ → List TypedExpr → Way → TypedExpr → World → Moment → Write
  write_of stmt layout place index way value world now =
      record { layout = layout; place = place; stmt = stmt; at = coord_of (map (expr_word world now) index); way = way; value = expr_word world now value }

  pub steps-own : (stmt layout place : ℕ) (index : List TypedExpr) (value : TypedExpr) (r : ℕ) (old new : Names) (a b z : List Inst) → basis.slicing ≡ false → is_own_index basis index ≡ true
      → is_owned basis.owned layout place ≡ true → Values basis value r old new a b → z ≡ b ++ v.OwnWrite layout place r stmt ∷ []
      → Steps basis (λ world now. add_write (write_of stmt layout place index way.Own value world now) now) a z
  steps-own stmt layout place index value r old new a b z body own_index owned values pushed = λ world is at point now start agrees.
      let seen = seen_of world at in
      let moved = runs seen b start in
      let shows = values.value world is at point now start agrees in
      let write = write_of stmt layout place index way.Own value world now in
      let here = own_coord basis world now moved at index point shows.agrees own_index in
      let after = ir.add_code_write (code_write basis.shapes write) moved in
      let done : runs seen z start ≡ after =
      ran b z (v.OwnWrite layout place r stmt) pushed seen start ∙ (does-OwnWrite seen layout place r stmt moved
      ∙ (ap (λ (w : ℕ). ir.add_code_write (record { layout = layout; field = place; stmt = stmt; at = Some at; way = way.Own; value = w }) moved) shows.holds
      ∙ ap (λ (c : Coord). ir.add_code_write (record { layout = layout; field = place; stmt = stmt; at = Some c; way = way.Own; value = expr_word world now value }) moved) (sym here))) in
      subst (λ (m : Moved). AgreesWithIteration basis at (add_write write now) m) (sym done)
      (agrees-written basis at now moved after write body (λ own. owned) shows.small refl refl refl shows.agrees.named shows.agrees)

  pub steps-acc : (stmt layout place : ℕ) (index : List TypedExpr) (op : AccOp) (value : TypedExpr) (r p : ℕ) (regs : List ℕ) (old k m n : Names) (a b c d z : List Inst) → basis.slicing ≡ false
      → Values basis value r old k a b → AllValues basis index regs k m b c → LeadsToPlace basis.shapes regs (λ seen now. place_at basis.shapes layout (named_by regs now)) layout p m n c d
      → z ≡ d ++ v.Acc op layout place p r regs stmt ∷ []
      → Steps basis (λ world now. add_write (write_of stmt layout place index (way.Acc op) value world now) now) a z
  steps-acc stmt layout place index op value r p regs old k m n a b c d z body values all leads pushed = λ world is at point now start agrees.
      let seen = seen_of world at in
      let moved = runs seen d start in
      let shows = values.value world is at point now start agrees in
      let it = placed basis index regs layout p k m n b c d all leads world is at point now start shows.agrees in
      let words = map (expr_word world now) index in
      let write = write_of stmt layout place index (way.Acc op) value world now in
      let keeps = (extends-trans basis k m n b c d all.extends leads.extends).keeps seen is.shapes_are start in
      let held : moved.regs r ≡ expr_word world now value = keeps.regs r values.named ∙ shows.holds in
      let went : at_of seen.shapes (moved.places p) ≡ inside_or_none basis.shapes layout (coord_of words) =
      ap (at_of seen.shapes) (it.place ∙ ap (λ (shapes : List Shape). place_at shapes layout (coord_of words)) (sym is.shapes_are))
      ∙ (is.reached layout (coord_of words) ∙ ap (λ (shapes : List Shape). inside_or_none shapes layout (coord_of words)) is.shapes_are) in
      let after = ir.add_code_write (code_write basis.shapes write) (ir.add_access (record { asks = false; layout = layout; place = moved.places p; at = named_by regs moved }) moved) in
      let done : runs seen z start ≡ after =
      ran d z (v.Acc op layout place p r regs stmt) pushed seen start ∙ (does-Acc seen op layout place p r regs stmt moved
      ∙ (ap (λ (w : ℕ). ir.add_code_write (record { layout = layout; field = place; stmt = stmt; at = at_of seen.shapes (moved.places p); way = way.Acc op; value = w }) (ir.add_access (record { asks = false; layout = layout; place = moved.places p; at = named_by regs moved }) moved)) held
      ∙ ap (λ (found : Option Coord). ir.add_code_write (record { layout = layout; field = place; stmt = stmt; at = found; way = way.Acc op; value = expr_word world now value }) (ir.add_access (record { asks = false; layout = layout; place = moved.places p; at = named_by regs moved }) moved)) went)) in
      subst (λ (m : Moved). AgreesWithIteration basis at (add_write write now) m) (sym done)
      (agrees-written basis at now moved after write body (λ own. absurd (both_ways false refl own)) shows.small refl refl refl
      (All-push (IsNamedAccess basis.shapes) moved.accesses (record { asks = false; layout = layout; place = moved.places p; at = named_by regs moved }) it.shows.agrees.named (access_named basis at now moved regs words layout p it)) it.shows.agrees)

  pub steps-want : (stmt layout place : ℕ) (index : List TypedExpr) (given : Way) (value : TypedExpr) (regs : List ℕ) (old new : Names) (a b z : List Inst) → basis.slicing ≡ true
      → (is_own given ≡ true → is_owned basis.owned layout place ≡ true) → AllValues basis index regs old new a b → z ≡ b ++ v.Want layout regs stmt ∷ []
      → Steps basis (λ world now. add_write (write_of stmt layout place index given value world now) now) a z
  steps-want stmt layout place index given value regs old new a b z slice own all pushed = λ world is at point now start agrees.
      let seen = seen_of world at in
      let moved = runs seen b start in
      let shows = all.values world is at point now start agrees in
      let write = write_of stmt layout place index given value world now in
      let after = ir.add_want (want_of write) moved in
      let done : runs seen z start ≡ after =
      ran b z (v.Want layout regs stmt) pushed seen start ∙ (does-Want seen layout regs stmt moved
      ∙ ap (λ (words : List ℕ). ir.add_want (record { layout = layout; stmt = stmt; at = coord_of words }) moved) shows.hold) in
      subst (λ (m : Moved). AgreesWithIteration basis at (add_write write now) m) (sym done)
      (agrees-wanted basis at now moved after write slice own refl refl refl shows.agrees.named shows.agrees)

  -- one statement after others
  pub steps-next : (stmts : List TypedStmt) (stmt : TypedStmt) (a b c : List Inst) → Steps basis (λ world now. run_all (map (action_of world) stmts) now) a b → Steps basis (λ world now. action_of world stmt now) b c
      → Steps basis (λ world now. run_all (map (action_of world) (stmts ++ stmt ∷ [])) now) a c
  steps-next stmts stmt a b c first second = λ world is at point now start agrees.
      subst (λ (after : Moment). AgreesWithIteration basis at after (runs (seen_of world at) c start))
      (sym (ap (λ (actions : List StmtAction). run_all actions now) (map-append (action_of world) stmts (stmt ∷ [])) ∙ fold-append (λ reached (action : StmtAction). action reached) now (map (action_of world) stmts) (action_of world stmt ∷ [])))
      (second world is at point (run_all (map (action_of world) stmts) now) start (first world is at point now start agrees))

  -- ---- statements by their kinds
  abbrev DoesIt : List Inst → List Inst → TypedStmt → Type 0
  DoesIt a z stmt = stmt_fits basis stmt ≡ true → Steps basis (λ world now. action_of world stmt now) a z

  pub does_let : (stmt : TypedStmt) (var : ℕ) (value : TypedExpr) → stmt.kind ≡ kind.Let var value → (r : ℕ) (old new : Names) (a b z : List Inst) → (can_be_lowered basis value ≡ true → Values basis value r old new a b) → z ≡ b ++ v.Set var r ∷ [] → DoesIt a z stmt
  does_let stmt var value is r old new a b z has pushed = of_kind (DoesIt a z) stmt (kind.Let var value) is (λ h.
      let parts = and_parts (nat_le basis.vars var) (can_be_lowered basis value) (sym (fits-Let basis stmt.number var value) ∙ h) in
      steps-same (λ world now. action_of world (record { number = stmt.number; kind = kind.Let var value }) now) (λ world now. set_var var (expr_word world now value) now) a z
      (λ world now. action-Let world stmt.number var value now) (steps-set var value r old new a b z (leb-true basis.vars var parts.0) (has parts.1) pushed))

  pub does_assign : (stmt : TypedStmt) (var : ℕ) (value : TypedExpr) → stmt.kind ≡ kind.Assign var value → (r : ℕ) (old new : Names) (a b z : List Inst) → (can_be_lowered basis value ≡ true → Values basis value r old new a b) → z ≡ b ++ v.Set var r ∷ [] → DoesIt a z stmt
  does_assign stmt var value is r old new a b z has pushed = of_kind (DoesIt a z) stmt (kind.Assign var value) is (λ h.
      let parts = and_parts (nat_le basis.vars var) (can_be_lowered basis value) (sym (fits-Assign basis stmt.number var value) ∙ h) in
      steps-same (λ world now. action_of world (record { number = stmt.number; kind = kind.Assign var value }) now) (λ world now. set_var var (expr_word world now value) now) a z
      (λ world now. action-Assign world stmt.number var value now) (steps-set var value r old new a b z (leb-true basis.vars var parts.0) (has parts.1) pushed))

  pub does_if : (stmt : TypedStmt) (condition : TypedExpr) (block otherwise : List TypedStmt) (has_else : Bool) → stmt.kind ≡ kind.If condition block otherwise has_else → (r : ℕ) (old new : Names) (a b z ys ns : List Inst)
      → (can_be_lowered basis condition ≡ true → Values basis condition r old new a b)
      → (list_all (stmt_fits basis) block ≡ true → Steps basis (λ world now. run_all (map (action_of world) block) now) [] ys)
      → (list_all (stmt_fits basis) otherwise ≡ true → Steps basis (λ world now. run_all (map (action_of world) otherwise) now) [] ns)
      → z ≡ b ++ v.If r ys ns ∷ [] → DoesIt a z stmt
  does_if stmt condition block otherwise has_else is r old new a b z ys ns has has_yes has_no pushed = of_kind (DoesIt a z) stmt (kind.If condition block otherwise has_else) is (λ h.
      let parts = and_parts (can_be_lowered basis condition) (list_all (stmt_fits basis) block && list_all (stmt_fits basis) otherwise) (sym (fits-If basis stmt.number condition block otherwise has_else) ∙ h) in
      let more = and_parts (list_all (stmt_fits basis) block) (list_all (stmt_fits basis) otherwise) parts.1 in
      steps-same (λ world now. action_of world (record { number = stmt.number; kind = kind.If condition block otherwise has_else }) now)
      (λ world now. run_all (if expr_word world now condition == 0 then map (action_of world) otherwise else map (action_of world) block) now) a z
      (λ world now. action-If world stmt.number condition block otherwise has_else now)
      (steps-if condition block otherwise r old new a b z ys ns (has parts.0) (has_yes more.0) (has_no more.1) pushed))

  pub does_for : (stmt : TypedStmt) (var : ℕ) (range : TypedRange) (body : List TypedStmt) → stmt.kind ≡ kind.For var range body → (lo hi : ℤ) (a z bs : List Inst)
      → lo ≡ number ty.I32 (constant_word range.lo) → hi ≡ number ty.I32 (constant_word range.hi)
      → (list_all (stmt_fits basis) body ≡ true → Steps basis (λ world now. run_all (map (action_of world) body) now) [] bs)
      → z ≡ a ++ v.For var lo hi bs ∷ [] → DoesIt a z stmt
  does_for stmt var range body is lo hi a z bs lo_is hi_is has pushed = of_kind (DoesIt a z) stmt (kind.For var range body) is (λ h.
      let parts = and_parts (nat_le basis.vars var) (is_constant_range range && list_all (stmt_fits basis) body) (sym (fits-For basis stmt.number var range body) ∙ h) in
      let more = and_parts (is_constant_range range) (list_all (stmt_fits basis) body) parts.1 in
      steps-same (λ world now. action_of world (record { number = stmt.number; kind = kind.For var range body }) now)
      (λ world now. fold (λ reached turn. run_all (map (action_of world) body) (set_var var (word_of turn) reached)) now (range_numbers world now range)) a z
      (λ world now. action-For world stmt.number var range body now)
      (steps-for var range body lo hi a z bs (leb-true basis.vars var parts.0) more.0 lo_is hi_is (has more.1) pushed))

  -- what a write that fits keeps to
  pub record WriteFits (layout place : ℕ) (index : List TypedExpr) (given : Way) (value : TypedExpr) : Type 0 where
    pub axes : equals_some (axes_in basis.shapes layout) (length index) ≡ true
    pub indices : list_all (can_be_lowered basis) index ≡ true
    pub whole : basis.slicing ≡ false → (can_be_lowered basis value ≡ true) × (is_own given ≡ true → is_own_index basis index ≡ true)
    pub own : is_own given ≡ true → is_owned basis.owned layout place ≡ true

  pub write_kept : (layout place : ℕ) (index : List TypedExpr) (given : Way) (value : TypedExpr) → write_fits basis layout place index given value ≡ true → WriteFits layout place index given value
  write_kept layout place index given value h =
      let p = and_parts ((equals_some (axes_in basis.shapes layout) (length index) && list_all (can_be_lowered basis) index) && (basis.slicing || (can_be_lowered basis value && (not (is_own given) || is_own_index basis index)))) (not (is_own given) || is_owned basis.owned layout place) h in
      let q = and_parts (equals_some (axes_in basis.shapes layout) (length index) && list_all (can_be_lowered basis) index) (basis.slicing || (can_be_lowered basis value && (not (is_own given) || is_own_index basis index))) p.0 in
      let i = and_parts (equals_some (axes_in basis.shapes layout) (length index)) (list_all (can_be_lowered basis) index) q.0 in
      record {
        axes = i.0;
        indices = i.1;
        whole = λ body.
            let r : (can_be_lowered basis value && (not (is_own given) || is_own_index basis index)) ≡ true = subst (λ (b : Bool). (b || (can_be_lowered basis value && (not (is_own given) || is_own_index basis index))) ≡ true) body q.1 in
            let s = and_parts (can_be_lowered basis value) (not (is_own given) || is_own_index basis index) r in
            (s.0, λ own. subst (λ (b : Bool). (not b || is_own_index basis index) ≡ true) own s.1);
        own = λ own. subst (λ (b : Bool). (not b || is_owned basis.owned layout place) ≡ true) own p.1;
      }

  abbrev DoesWrite : ℕ → ℕ → ℕ → List TypedExpr → Way → TypedExpr → List Inst → List Inst → Type 0
  DoesWrite stmt layout place index given value a z = DoesIt a z (write_stmt stmt layout place index given value)

  written : (stmt layout place : ℕ) (index : List TypedExpr) (given : Way) (value : TypedExpr) (a z : List Inst)
      → (WriteFits layout place index given value → Steps basis (λ world now. add_write (write_of stmt layout place index given value world now) now) a z) → DoesWrite stmt layout place index given value a z
  written stmt layout place index given value a z steps = λ h.
      steps-same (λ world now. action_of world (write_stmt stmt layout place index given value) now) (λ world now. add_write (write_of stmt layout place index given value world now) now) a z
      (λ world now. action-Write world stmt layout place index given value now) (steps (write_kept layout place index given value (sym (fits-Write basis stmt layout place index given value) ∙ h)))

  pub does_want : (stmt layout place : ℕ) (index : List TypedExpr) (given : Way) (value : TypedExpr) (regs : List ℕ) (old new : Names) (a b z : List Inst) → basis.slicing ≡ true
      → (list_all (can_be_lowered basis) index ≡ true → AllValues basis index regs old new a b) → z ≡ b ++ v.Want layout regs stmt ∷ [] → DoesWrite stmt layout place index given value a z
  does_want stmt layout place index given value regs old new a b z slice has pushed = written stmt layout place index given value a z (λ kept.
      steps-want stmt layout place index given value regs old new a b z slice kept.own (has kept.indices) pushed)

  pub does_own : (stmt layout place : ℕ) (index : List TypedExpr) (given : Way) → given ≡ way.Own → (value : TypedExpr) (r : ℕ) (old new : Names) (a b z : List Inst) → basis.slicing ≡ false
      → (can_be_lowered basis value ≡ true → Values basis value r old new a b) → z ≡ b ++ v.OwnWrite layout place r stmt ∷ [] → DoesWrite stmt layout place index given value a z
  does_own stmt layout place index given is value r old new a b z body has pushed = subst (λ (it : Way). DoesWrite stmt layout place index it value a z) (sym is) (written stmt layout place index way.Own value a z (λ kept.
      let whole = kept.whole body in
      steps-own stmt layout place index value r old new a b z body (whole.1 refl) (kept.own refl) (has whole.0) pushed))

  pub does_acc : (stmt layout place : ℕ) (index : List TypedExpr) (given : Way) (op : AccOp) → given ≡ way.Acc op → (value : TypedExpr) (r p : ℕ) (regs : List ℕ) (old k m n : Names) (a b c d z : List Inst) → basis.slicing ≡ false
      → (can_be_lowered basis value ≡ true → Values basis value r old k a b) → (list_all (can_be_lowered basis) index ≡ true → AllValues basis index regs k m b c)
      → length regs ≡ length index → (equals_some (axes_in basis.shapes layout) (length regs) ≡ true → LeadsToPlace basis.shapes regs (λ seen now. place_at basis.shapes layout (named_by regs now)) layout p m n c d) → z ≡ d ++ v.Acc op layout place p r regs stmt ∷ [] → DoesWrite stmt layout place index given value a z
  does_acc stmt layout place index given op is value r p regs old k m n a b c d z body has has_all count to_place pushed = subst (λ (it : Way). DoesWrite stmt layout place index it value a z) (sym is) (written stmt layout place index (way.Acc op) value a z (λ kept.
      let whole = kept.whole body in
      steps-acc stmt layout place index op value r p regs old k m n a b c d z body (has whole.0) (has_all kept.indices) (to_place (ap (equals_some (axes_in basis.shapes layout)) count ∙ kept.axes)) pushed))

  -- a block of its own, of the same statements
  pub block_does : (given stmts : List TypedStmt) (block : List Inst) → given ≡ stmts
      → (list_all (stmt_fits basis) given ≡ true → Steps basis (λ world now. run_all (map (action_of world) given) now) [] block)
      → list_all (stmt_fits basis) stmts ≡ true → Steps basis (λ world now. run_all (map (action_of world) stmts) now) [] block
  block_does given stmts block same does = subst (λ (it : List TypedStmt). list_all (stmt_fits basis) it ≡ true → Steps basis (λ world now. run_all (map (action_of world) it) now) [] block) same does
