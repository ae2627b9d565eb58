-- What is left of simplified code, where least is kept, is simplified, and lean.
use Rattle.std.specs.Prelude.{◌≡◌, refl, ℕ, ◌≤◌, ◌==◌, nat_le, nat_lt, Bool, true, ◌&&◌, if◌then◌else◌, List, [], ◌∷◌, Contains}
use Rattle.std.specs.List.{list_all}
use Rattle.std.proofs.Common.{arith, sym, ap, subst, ◌∙◌}
use Rattle.std.proofs.lemmas.Bool.{and_parts, and_from}
use Rattle.sg_words.specs.declared.operators.Ty.{Ty}
use Rattle.sg_layout.specs.declared.shape.Shape.{Shape}
use Rattle.sg_flat.specs.declared.effects.Domain.{Domain}
use Rattle.sg_ir.specs.declared.code.Code.{Code}
use Rattle.sg_ir.specs.declared.op.Op.{Op}
use Rattle.sg_ir.specs.declared.op.Op.TheVariants as op
use Rattle.sg_ir.specs.Runs.{Seen, iteration_start, iteration}
use Rattle.sg_ir.specs.Named.{AreNamed}
use Rattle.sg_ir.specs.Apt.{uses_in}
use Rattle.sg_ir.specs.Blocks.{Block, End, Word, Spot, Cell, Do, Branch, Loop, block_in}
use Rattle.sg_ir.specs.Span.{whole_i32, domain_span, first_spans, sets}
use Rattle.sg_ir.specs.Shared.{is_single, is_shared}
use Rattle.sg_ir.specs.Trimmed.{accesses_are_trim, is_trimmed, asked}
use Rattle.sg_ir.specs.WellTyped.{Frame, Scope, with_reg, with_var, frame_of, first_scope, judged, set_regs, set_places, setters_in, has_no_twice, most_loop_vars, is_well_typed}
use Rattle.sg_ir.specs.InScope.{nothing, IsScoped, op_places}
use Rattle.sg_ir.specs.Scoped.{RunMoment, first_room, run}
use Rattle.sg_ir.specs.Flat.{moment_of}
use Rattle.sg_ir.proofs.Uses.{forms_alike, asked-code}
use Rattle.sg_simplify.specs.Simplified.{TellsTheSame, IsSimplified}
use Rattle.sg_simplify.specs.steps.Left.{IsSimple}
use Rattle.sg_simplify.specs.steps.Counted.{regs_set, places_set}
use Rattle.sg_simplify.specs.steps.Judged.{fits_scope, is_no_read, step_known, and_known, behind_act}
use Rattle.sg_simplify.specs.steps.Only.{has_use}
use Rattle.sg_simplify.specs.steps.Serves.{NamesAll}
use Rattle.sg_simplify.specs.steps.Trims.{answers}
use Rattle.sg_simplify.proofs.Answering.{all_good, only_asked, answers_trim, answers_asked, both_answer}
use Rattle.sg_simplify.proofs.Judging.{code_fits}
use Rattle.sg_simplify.proofs.Naming.{told_named, named_told}
use Rattle.sg_simplify.proofs.Tallying.{code_regs, code_places, code_vars}
use Rattle.sg_simplify.proofs.UsesKept.{only_given}
use Rattle.sg_simplify.proofs.UsesOfCode.{code_uses}
use Rattle.sg_simplify.proofs.TypingWhole.{not_twice}
use Rattle.sg_words.specs.Spread.{IsLeastSpread, bears_mark}
use Rattle.sg_simplify.specs.Kept.{Keep, kept_part, ReadsKept, IsLean}
use Rattle.sg_simplify.specs.steps.Needed.{outermost, needs_of, kept_by}
use Rattle.sg_simplify.proofs.KeptRuns.{SameRoom, SameMoment, keeps_run}
use Rattle.sg_simplify.proofs.KeptCounts.{kept_sets, kept_regs, kept_places}
use Rattle.sg_simplify.proofs.KeptShared.{kept_shared}
use Rattle.sg_simplify.proofs.KeptTrims.{kept_trim}
use Rattle.sg_simplify.proofs.KeptUses.{kept_unused}
use Rattle.sg_simplify.proofs.KeptTyped.{kept_typed}
use Rattle.sg_simplify.proofs.KeptNamed.{kept_named}
use Rattle.sg_simplify.proofs.KeptScoped.{kept_scoped}
use Rattle.sg_simplify.proofs.KeptLeast.{least_closed, least_is_lean}
use Rattle.sg_simplify.proofs.KeptChecks.{HasNoReads, lean_checks_serve}

-- well-typed code has no plain operation that reads a place
no_places : (how : Op) → is_no_read how ≡ true → op_places how ≡ []
no_places (op.Const word truth) e = refl
no_places (op.Var var) e = refl
no_places (op.Bin how kind a b) e = refl
no_places (op.Un how kind a) e = refl
no_places (op.Mulq a b s) e = refl
no_places (op.Extract div size from) e = refl
no_places (op.Offset high size low) e = refl
no_places (op.Read place layout field) e = absurd (cc)
no_places (op.Active place) e = absurd (cc)
no_places (op.OwnRead layout field) e = refl

fits_no_reads : (at : Frame) (scope : Scope) (block : Block) → fits_scope at scope block ≡ true → HasNoReads block
fits_no_reads at scope End e = tt
fits_no_reads at scope (Word to how rest) e =
    let parts = and_parts _ (fits_scope at (with_reg to scope) rest) e in
    (no_places how (and_parts (is_no_read how) _ parts.0).0, fits_no_reads at (with_reg to scope) rest parts.1)
fits_no_reads at scope (Spot to how rest) e = fits_no_reads at (and_known to (step_known scope how) scope) rest (and_parts _ (fits_scope at (and_known to (step_known scope how) scope) rest) e).1
fits_no_reads at scope (Cell to place sight index rest) e = fits_no_reads at (with_reg to scope) rest (and_parts _ (fits_scope at (with_reg to scope) rest) e).1
fits_no_reads at scope (Do what rest) e = fits_no_reads at (behind_act what scope) rest (and_parts _ (fits_scope at (behind_act what scope) rest) e).1
fits_no_reads at scope (Branch cond block otherwise rest) e =
    let first = and_parts _ (fits_scope at scope rest) e in
    let second = and_parts (fits_scope at scope block) (fits_scope at scope otherwise) (and_parts _ (fits_scope at scope block && fits_scope at scope otherwise) first.0).1 in
    (fits_no_reads at scope block second.0, fits_no_reads at scope otherwise second.1, fits_no_reads at scope rest first.1)
fits_no_reads at scope (Loop var lo hi body rest) e =
    let first = and_parts _ (fits_scope at scope rest) e in
    let second = and_parts _ (fits_scope at (with_var var scope) body) (and_parts _ ((at.setters var == 1) && fits_scope at (with_var var scope) body) first.0).1 in
    (fits_no_reads at (with_var var scope) body second.1, fits_no_reads at scope rest first.1)

abbrev framed : List Shape → List Ty → ℕ → List Ty → (ℕ → ℕ) → Frame
framed shapes regs places vars setters = record { shapes = shapes; regs = regs; places = places; vars = vars; setters = setters }

same_frame : (shapes : List Shape) (regs other : List Ty) (places room : ℕ) (vars more : List Ty) (setters : ℕ → ℕ) → regs ≡ other → places ≡ room → vars ≡ more
    → framed shapes regs places vars setters ≡ framed shapes other room more setters
same_frame shapes regs other places room vars more setters a b c =
    ap (λ (x : List Ty). framed shapes x places vars setters) a ∙ (ap (λ (x : ℕ). framed shapes other x vars setters) b ∙ ap (λ (x : List Ty). framed shapes other room x setters) c)

module _ (shapes : List Shape) (domain : Domain) (given made left : Code) (simple : IsSimple shapes domain given made) (scoped : IsScoped nothing (block_in made))
    (once : (n : ℕ) → (regs_set n (block_in made) ≤ 1) × (places_set n (block_in made) ≤ 1))
    (marks : List Bool) (spread : IsLeastSpread (needs_of outermost 1 (block_in made)) (outermost ∷ []) marks)
    (is : block_in left ≡ kept_part (kept_by (bears_mark marks)) (block_in made)) (same_regs : left.regs ≡ made.regs) (same_places : left.places ≡ made.places) (same_vars : left.vars ≡ made.vars) where
  abbrev all : Block
  all = block_in made

  abbrev keep : Keep
  keep = kept_by (bears_mark marks)

  abbrev part : Block
  part = kept_part (kept_by (bears_mark marks)) (block_in made)

  closed : ReadsKept keep part
  closed = least_closed all marks spread

  part_lean : IsLean part
  part_lean = least_is_lean all marks spread

  part_scoped : IsScoped nothing part
  part_scoped = kept_scoped keep all nothing nothing (record { regs = λ r on. refl; places = λ p on. refl }) closed scoped

  left_scoped : IsScoped nothing (block_in left)
  left_scoped = subst (IsScoped nothing) (sym is) part_scoped

  same_room : (seen : Seen) → SameRoom seen keep first_room first_room
  same_room seen = record { regs = λ r on. refl; places = λ p on. refl; roots = λ p on. refl }

  same_moment : (seen : Seen) (now : RunMoment) → SameMoment seen keep now now
  same_moment seen now = record { vars = λ v on. refl; writes = refl; wants = refl }

  tells : (seen : Seen) → TellsTheSame (iteration seen given.body) (iteration seen made.body) → TellsTheSame (iteration seen given.body) (iteration seen left.body)
  tells seen told =
      let start = moment_of (iteration_start seen) in
      let first = forms_alike seen made.regs made.body scoped in
      let second = forms_alike seen left.regs left.body left_scoped in
      let moments = keeps_run seen keep all first_room first_room start start closed (same_room seen) (same_moment seen start) in
      record {
        writes = second.writes ∙ (ap (λ (b : Block). (run seen b first_room start).writes) is ∙ (moments.writes ∙ (sym first.writes ∙ told.writes)));
        wants = second.wants ∙ (ap (λ (b : Block). (run seen b first_room start).wants) is ∙ (moments.wants ∙ (sym first.wants ∙ told.wants)));
      }

  names : (seen : Seen) → AreNamed seen.shapes (iteration seen made.body).accesses → AreNamed seen.shapes (iteration seen left.body).accesses
  names seen named =
      let start = moment_of (iteration_start seen) in
      named_told seen left.regs left.body left_scoped
      (subst (λ (b : Block). NamesAll seen b first_room start) (sym is)
      (kept_named seen keep all first_room first_room start start closed (same_room seen) (same_moment seen start) (told_named seen made.regs made.body scoped named)))

  setters_same : (v : ℕ) → keep.vars v ≡ true → setters_in left.body v ≡ setters_in made.body v
  setters_same v on = sym (code_vars left.regs left.body v) ∙ (ap (sets v) is ∙ (kept_sets keep v on all ∙ code_vars made.regs made.body v))

  part_fits : fits_scope (framed shapes made.regs made.places made.vars (setters_in left.body)) (first_scope left.body) part ≡ true
  part_fits = kept_typed keep shapes made.regs made.places made.vars (setters_in made.body) (setters_in left.body) setters_same all (first_scope made.body) (first_scope left.body)
      (record { regs = λ r on. refl; places = λ p on. refl; vars = λ v on. ap (λ n. nat_lt v most_loop_vars && (n == 0)) (setters_same v on) }) closed
      (code_fits (frame_of shapes made) made.body (first_scope made.body)
      ∙ (and_parts (judged (frame_of shapes made) made.body (first_scope made.body)).0 (has_no_twice (set_regs made.body) && has_no_twice (set_places made.body)) simple.typed).0)

  part_once : (n : ℕ) → (regs_set n part ≤ 1) × (places_set n part ≤ 1)
  part_once n =
      let a = kept_regs keep n all in
      let b = kept_places keep n all in
      let c = once n in
      (at_most (regs_set n part) (regs_set n all) a c.0, at_most (places_set n part) (places_set n all) b c.1)
    where
      at_most : (x y : ℕ) → x ≤ y → y ≤ 1 → x ≤ 1
      at_most x y e f = omega (arith, e, f)

  left_typed : is_well_typed shapes left ≡ true
  left_typed =
      and_from (judged (frame_of shapes left) left.body (first_scope left.body)).0 (has_no_twice (set_regs left.body) && has_no_twice (set_places left.body))
      (sym (code_fits (frame_of shapes left) left.body (first_scope left.body))
      ∙ (ap (λ (at : Frame). fits_scope at (first_scope left.body) (block_in left)) (same_frame shapes left.regs made.regs left.places made.places left.vars made.vars (setters_in left.body) same_regs same_places same_vars)
      ∙ (ap (fits_scope (framed shapes made.regs made.places made.vars (setters_in left.body)) (first_scope left.body)) is ∙ part_fits)))
      (and_from (has_no_twice (set_regs left.body)) (has_no_twice (set_places left.body))
      (not_twice (set_regs left.body) (λ n. subst (λ k. k ≤ 1) (ap (regs_set n) (sym is) ∙ code_regs left.regs left.body n) (part_once n).0))
      (not_twice (set_places left.body) (λ n. subst (λ k. k ≤ 1) (ap (places_set n) (sym is) ∙ code_places left.regs left.body n) (part_once n).1)))

  part_shared : is_shared part ≡ true
  part_shared = kept_shared keep (is_single all) (is_single part) (λ v on. ap (λ n. nat_le n 1) (kept_sets keep v on all)) all [] [] [] [] (record { computed = λ how e. e; stepped = λ how e. e }) closed simple.shared

  -- what is left answers, for a test that passes for what all of it asks
  part_answers : (good : ℕ → Bool) → list_all good (asked [] all) ≡ true → answers good shapes (first_spans shapes domain part) [] part ≡ true
  part_answers good asks =
      kept_trim good keep shapes all (first_spans shapes domain all) (first_spans shapes domain part) [] []
      (record { regs = λ r on. refl; vars = λ v on. ap (λ n. if n == 0 then domain_span shapes domain v else whole_i32) (kept_sets keep v on all); places = λ p on. refl }) closed
      (both_answer good shapes all (first_spans shapes domain all) [] (and_parts (accesses_are_trim shapes (first_spans shapes domain all) [] all) _ simple.trimmed).0 asks)

  part_trimmed : is_trimmed shapes domain part ≡ true
  part_trimmed =
      and_from (accesses_are_trim shapes (first_spans shapes domain part) [] part) _
      (answers_trim (λ layout. true) shapes part (first_spans shapes domain part) [] (part_answers (λ layout. true) (all_good (asked [] all))))
      (lean_checks_serve part part_lean (fits_no_reads (framed shapes made.regs made.places made.vars (setters_in left.body)) (first_scope left.body) part part_fits) part_scoped (λ n. (part_once n).1))

  part_asks : (layout : ℕ) → Contains (asked [] part) layout → Contains (asked [] all) layout
  part_asks = only_asked (asked [] all) (asked [] part) (λ good e. answers_asked good shapes part (first_spans shapes domain part) [] (part_answers good e))

  pub left_is_simplified : IsSimplified shapes domain given left
  left_is_simplified = record {
    same = λ state flat at has. tells (record { shapes = shapes; state = state; at = at }) (simple.same state flat at has);
    typed = left_typed;
    named = λ state flat at has. names (record { shapes = shapes; state = state; at = at }) (simple.named state flat at has);
    shared = ap is_shared is ∙ part_shared;
    trimmed = ap (is_trimmed shapes domain) is ∙ part_trimmed;
    only = λ it has. simple.only it (only_given (uses_in made.body) (uses_in left.body)
        (λ test off. sym (code_uses left.regs test left.body) ∙ (ap (has_use test) is ∙ kept_unused keep test all (code_uses made.regs test made.body ∙ off))) it has);
    asks = λ layout has. simple.asks layout (subst (λ (xs : List ℕ). Contains xs layout) (asked-code made)
        (part_asks layout (subst (λ (xs : List ℕ). Contains xs layout) (sym (asked-code left) ∙ ap (asked []) is) has)));
    lean = subst IsLean (sym is) part_lean;
  }
