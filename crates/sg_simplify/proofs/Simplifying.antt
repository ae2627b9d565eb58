-- The pass keeps what a block does: its output runs to the same moment, and names its accesses.
use Rattle.std.specs.Prelude.{◌≡◌, refl, ℕ, zero, suc, ◌+◌, ◌<◌, ◌≤◌, ◌==◌, Bool, true, false, if◌then◌else◌, List, [], ◌∷◌, ◌++◌, length, map, fold, Some, ℤ, pos, ◌+ℤ◌, ◌-ℤ◌, ◌≤ℤ◌, ◌<ℤ◌}
use Rattle.std.specs.List.{range_with_len}
use Rattle.std.proofs.Common.{arith, sym, ap, subst, ◌∙◌}
use Rattle.std.proofs.lemmas.Bool.{eqb-true}
use Rattle.sg_words.specs.declared.operators.Ty.{Ty}
use Rattle.sg_words.specs.Words.{word_of}
use Rattle.sg_coord.specs.Coord.{count_of}
use Rattle.sg_flat.specs.declared.effects.Way.TheVariants.{Own, Acc}
use Rattle.sg_flat.specs.Domain.{numbers}
use Rattle.sg_ir.specs.declared.op.Op.{Op}
use Rattle.sg_ir.specs.declared.op.Step.{Step}
use Rattle.sg_ir.specs.declared.op.Step.TheVariants as step
use Rattle.sg_ir.specs.Runs.{Seen, put, coord_of, cell_value, at_of}
use Rattle.sg_ir.specs.Places.{place_at}
use Rattle.sg_ir.specs.Blocks.{Sight, sight_op, Block, End, Word, Spot, Cell, Do, Branch, Loop, Act, SetVar, WriteOwn, Contribute, Wish, Value, Activity}
use Rattle.sg_ir.specs.declared.span.Span.{Span}
use Rattle.sg_ir.specs.Span.{whole_i32, Spans, var_span, with_span, in_loop, op_span, sets}
use Rattle.sg_ir.specs.Shared.{is_pure}
use Rattle.sg_ir.specs.SpanLaws.{Lies, HasConstantWord, WhereTest, EachTurn, IsSpanned, FitsSpans}
use Rattle.sg_ir.specs.Scoped.{RunMoment, Room, room_reg, room_place, op_word, step_root, step_place, moment_after_act, at_turn, run}
use Rattle.sg_ir.specs.InScope.{InScope, and_reg, and_place, op_regs, AreSet, step_places}
use Rattle.sg_ir.proofs.Uses.{entered, left, counted}
use Rattle.sg_simplify.specs.steps.Pass.{Given, Pass, Next, Making, made_name, with_name, given_type, span_in, vars_of, renamed, put_in_front, taken, numbered, looped, simplified, root_known, root_by, layout_seen}
use Rattle.sg_simplify.specs.steps.Serves.{Laws, NamesAll, OpStays, HoldsInRoom, Later, Alike, Good, Serves, IsAt, OpIsAt, OpBelow, OpLies}
use Rattle.sg_simplify.specs.steps.Ruled.{IsNotRead, HasLayout, IsRuled, AllRenamed, AreRooted}
use Rattle.sg_simplify.proofs.Serving.{later_on, alike_on, holds_later, fresh_law, taken_law}
use Rattle.sg_simplify.proofs.Placing.{index_below, words_kept, placed_law}
use Rattle.sg_simplify.proofs.Growing.{grown_on, simplified_grows}
use Rattle.sg_simplify.proofs.Renaming.{renamed_later, grown_later, renamed_grown, name_later, renamed_put, renamed_spot, op_renamed, op_renamed_below, op_renamed_lies, index_renamed, words_renamed, are_words, has_renamed, stays_renamed, at_renamed, spanned_same}
use Rattle.sg_simplify.proofs.Moving.{flag, put_other, first_none, last_none, none_of, none_of_three, run_leaves, ops_moved, holds_moved}

module _ (seen : Seen) where
  put_words : (to word : ℕ) (room : Room) → ((r : ℕ) → Lies whole_i32 (room.regs r)) → Lies whole_i32 word → (r : ℕ) → Lies whole_i32 ((room_reg to word room).regs r)
  put_words to word room all one r = by_test (r == to)
    where
      by_test : (test : Bool) → Lies whole_i32 (if test then word else room.regs r)
      by_test true = one
      by_test false = all r

  -- ---- both ways of a branch
  both_ways : (test : Bool) (block otherwise : Block) (first second : Block × Next) (from to : Room) (now : RunMoment)
      → WhereTest test (NamesAll seen otherwise from now) (NamesAll seen block from now)
      → (NamesAll seen block from now → Good seen first to now (run seen block from now)) → (NamesAll seen otherwise from now → Good seen second to now (run seen otherwise from now))
      → ((if test then run seen second.0 to now else run seen first.0 to now) ≡ (if test then run seen otherwise from now else run seen block from now))
      × WhereTest test (NamesAll seen second.0 to now) (NamesAll seen first.0 to now)
  both_ways true block otherwise first second from to now names a b = ((b names).runs, (b names).names)
  both_ways false block otherwise first second from to now names a b = ((a names).runs, (a names).names)

  module _ (laws : Laws seen) (given : Given) (same : given.shapes ≡ seen.shapes) where
    -- what a step puts into scope comes from the root that is known of it
    rooted_spot : (scope : InScope) (from : Room) (to : ℕ) (how : Step) → root_known given.roots to ≡ root_by given.roots how → AreSet scope.places (step_places how) → AreRooted given.roots scope from
        → AreRooted given.roots (and_place to scope) (room_place to (step_root from how) (step_place seen from how) from)
    rooted_spot scope from to how known set rooted p = by_test (p == to) refl
      where
        of_step : (it : Step) → AreSet scope.places (step_places it) → step_root from it ≡ root_by given.roots it
        of_step (step.Root layout) there = refl
        of_step (step.Check place axis extent index) there = rooted place there.0
        of_step (step.Down descent place node offset) there = rooted place there.0

        by_test : (test : Bool) → (p == to) ≡ test → (if test then true else scope.places p) ≡ true → (if test then step_root from how else from.roots p) ≡ root_known given.roots p
        by_test true e on = of_step how set ∙ (sym known ∙ ap (root_known given.roots) (sym (eqb-true p to e)))
        by_test false e on = rooted p on

    -- what is seen at a place: it is at its coordinate, by the layout that is known; and it is the same at the same place
    seen_at : (from : Room) (place : ℕ) (sight : Sight) (index : List ℕ) → from.roots place ≡ root_known given.roots place → OpIsAt seen.shapes from (sight_op place sight) index
        → IsAt seen.shapes from place (layout_seen given place sight) index
    seen_at from place (Value layout field) index is at = at
    seen_at from place Activity index is at = subst (λ (layout : ℕ). IsAt seen.shapes from place layout index) is at

    sight_at : (beyond : Room) (p place : ℕ) (sight : Sight) (index : List ℕ) → beyond.roots p ≡ layout_seen given place sight → IsAt seen.shapes beyond p (layout_seen given place sight) index
        → OpIsAt seen.shapes beyond (sight_op p sight) index
    sight_at beyond p place (Value layout field) index is at = at
    sight_at beyond p place Activity index is at = subst (λ (layout : ℕ). IsAt seen.shapes beyond p layout index) (sym is) at

    sight_word : (beyond from : Room) (now : RunMoment) (p place : ℕ) (sight : Sight) → beyond.places p ≡ from.places place → op_word seen beyond now (sight_op p sight) ≡ op_word seen from now (sight_op place sight)
    sight_word beyond from now p place (Value layout field) same = ap (λ there. cell_value seen layout field (at_of seen.shapes there)) same
    sight_word beyond from now p place Activity same = rw same refl

    sight_constant : (p : ℕ) (sight : Sight) → HasConstantWord (sight_op p sight)
    sight_constant p (Value layout field) = tt
    sight_constant p Activity = tt

    sight_below : (regs places p : ℕ) (sight : Sight) → p < places → OpBelow regs places (sight_op p sight)
    sight_below regs places p (Value layout field) below = below
    sight_below regs places p Activity below = below

    sight_stays : (rest : Block) (p : ℕ) (sight : Sight) → OpStays rest (sight_op p sight)
    sight_stays rest p (Value layout field) = tt
    sight_stays rest p Activity = tt

    sight_lies : (next : Next) (room : Room) (p : ℕ) (sight : Sight) → OpLies next room (sight_op p sight)
    sight_lies next room p (Value layout field) = tt
    sight_lies next room p Activity = tt

    -- what is claimed of a block
    abbrev pub Simplifies : Block → Type 0
    Simplifies block = (scope : InScope) (known : Pass) (next : Next) (from to : Room) (now : RunMoment) → IsRuled seen.shapes given.roots given.single (vars_of given known) scope block → AreRooted given.roots scope from
        → HoldsInRoom seen given block known next to now → AllRenamed scope next from to → ((r : ℕ) → Lies whole_i32 (from.regs r)) → NamesAll seen block from now
        → Good seen (simplified given block known next) to now (run seen block from now)

    -- a register of the given code, and what follows
    behind : (rest : Block) → Simplifies rest → (scope : InScope) (to word : ℕ) (vars : Spans) (pass known : Pass) (next further : Next) (from room beyond : Room) (now : RunMoment) (t : ℕ)
        → IsRuled seen.shapes given.roots given.single vars (and_reg to scope) rest → AreRooted given.roots scope from → ((v : ℕ) → var_span vars v ≡ var_span (vars_of given pass) v) → AllRenamed scope next from room → ((r : ℕ) → Lies whole_i32 (from.regs r))
        → NamesAll seen rest (room_reg to word from) now
        → Later next room further beyond → Alike pass next known further → HoldsInRoom seen given rest known further beyond now → t < length further.spans → beyond.regs t ≡ word → Lies (span_in further t) word
        → Good seen (simplified given rest known (with_name to t further)) beyond now (run seen rest (room_reg to word from) now)
    behind rest simplifies scope to word vars pass known next further from room beyond now t ruled rooted spans all words names later alike holding below is lies =
        simplifies (and_reg to scope) known (with_name to t further) (room_reg to word from) beyond now
        (record {
          scoped = ruled.scoped;
          settled = ruled.settled;
          fitted = ruled.fitted;
          rooted = ruled.rooted;
          spanned = spanned_same rest vars (vars_of given known) (λ v. spans v ∙ ap (λ (loops : List (ℕ × Span)). var_span (record { regs = []; loops = loops; others = given.others }) v) (sym alike.loops)) ruled.spanned;
        }) rooted
        (holds_later seen given rest known further beyond (with_name to t further) beyond now (name_later further beyond to t) holding.words holding)
        (renamed_put scope further from beyond to t word (renamed_later scope next from room further beyond later alike.names all) below is lies)
        (put_words to word from words (laws.wide (span_in further t) word lies)) names

    numbered_law : (pure : Bool) (rest : Block) (type : Ty) (how : Op) (go : ℕ → Making) (scope : InScope) (known : Pass) (next : Next) (from to : Room) (now result : RunMoment) → is_pure given.single how ≡ pure
        → HoldsInRoom seen given rest known next to now → HasConstantWord how → IsNotRead how → AreSet scope.regs (op_regs how) → AllRenamed scope next from to → (is_pure given.single how ≡ true → OpStays rest (renamed next how))
        → Serves seen given rest known next to now result (op_word seen to now (renamed next how)) go → Good seen (numbered pure given type (renamed next how) go known next) to now result
    numbered_law true rest type how go scope known next from to now result e holds has plain set all stays serves =
        taken_law seen laws given rest type (renamed next how) [] go known next to now result holds (has_renamed next how has)
        (op_renamed_below seen scope next from to all how plain set) (stays e) (op_renamed_lies seen scope next from to all how plain set) (at_renamed seen to next how plain) serves
    numbered_law false rest type how go scope known next from to now result e holds has plain set all stays serves =
        fresh_law seen laws given rest type (renamed next how) [] go known next to now result holds (has_renamed next how has)
        (op_renamed_lies seen scope next from to all how plain set) (at_renamed seen to next how plain) serves

    word_simplifies : (to : ℕ) (how : Op) (rest : Block) → Simplifies rest → Simplifies (Word to how rest)
    word_simplifies to how rest simplifies scope known next from room now ruled rooted holds all words names =
        let plain = ruled.fitted.0 in
        let set = ruled.scoped.0 in
        let is = op_renamed seen scope next from room all now how plain set in
        numbered_law (is_pure given.single how) rest (given_type given to) how (λ t now later. simplified given rest now (with_name to t later)) scope known next from room now
        (run seen rest (room_reg to (op_word seen from now how) from) now) refl
        (holds_moved seen given (Word to how rest) rest known next room now now (λ var e. (e, refl)) holds.fits holds)
        ruled.spanned.0 plain set all (λ pure. stays_renamed given.single rest next how pure plain ruled.settled.0)
        (λ t known' further beyond later alike holding below t_is t_lies.
        behind rest simplifies scope to (op_word seen from now how) (with_span to (op_span (vars_of given known) how) (vars_of given known)) known known' next further from room beyond now t
        (record { scoped = ruled.scoped.3; settled = ruled.settled.1; spanned = ruled.spanned.1; fitted = ruled.fitted.1; rooted = ruled.rooted }) rooted (λ v. refl) all words names later alike holding below (t_is ∙ is)
        (subst (λ w. Lies (span_in further t) w) is t_lies))

    spot_simplifies : (to : ℕ) (how : _) (rest : Block) → Simplifies rest → Simplifies (Spot to how rest)
    spot_simplifies to how rest simplifies scope known next from room now ruled rooted holds all words names =
        let good = simplifies (and_place to scope) known next (room_place to (step_root from how) (step_place seen from how) from) room now
        (record { scoped = ruled.scoped.3; settled = ruled.settled; spanned = ruled.spanned; fitted = ruled.fitted; rooted = ruled.rooted.1 })
        (rooted_spot scope from to how ruled.rooted.0 ruled.scoped.1 rooted)
        (holds_moved seen given (Spot to how rest) rest known next room now now (λ var e. (e, refl)) holds.fits holds)
        (renamed_spot scope next from room to (step_root from how) (step_place seen from how) all) words names in
        record { runs = good.runs; names = good.names }

    -- a read of a cell: its place is built anew
    cell_simplifies : (to place r : ℕ) (sight : Sight) (index : List ℕ) (rest : Block) → Simplifies rest → Simplifies (Cell to place sight (r ∷ index) rest)
    cell_simplifies to place r sight index rest simplifies scope known next from room now ruled rooted holds all words names =
        let set = ruled.scoped.3 in
        let layout = layout_seen given place sight in
        let fresh_index = map (made_name next) (r ∷ index) in
        let has : HasLayout seen.shapes layout (length (r ∷ index)) = ruled.fitted.0 in
        let same_words : map room.regs fresh_index ≡ map from.regs (r ∷ index) = words_renamed seen scope next from room all (r ∷ index) set in
        let is_index = index_renamed seen scope next from room all (r ∷ index) set in
        let word = op_word seen from now (sight_op place sight) in
        let holding = holds_moved seen given (Cell to place sight (r ∷ index) rest) rest known next room now now (λ var e. (e, refl)) holds.fits holds in
        let result = run seen rest (room_reg to word from) now in
        placed_law seen laws given rest now result has.shape layout (made_name next r) (map (made_name next) index)
        (λ p. taken given (given_type given to) (sight_op p sight) fresh_index (λ t known' later. simplified given rest known' (with_name to t later)))
        known next room same has.there (has.leads (map room.regs fresh_index) (lengths (r ∷ index)) (are_words seen scope next from room all (r ∷ index) set)) holding is_index
        (λ p known' further beyond later alike holding' below is root.
        let at : beyond.places p ≡ place_at seen.shapes layout (coord_of (map beyond.regs fresh_index)) =
        is ∙ ap (λ ws. place_at seen.shapes layout (coord_of ws)) (sym (words_kept next room further beyond later fresh_index (index_below next room fresh_index is_index))) in
        let same_place : beyond.places p ≡ from.places place = is ∙ (ap (λ ws. place_at seen.shapes layout (coord_of ws)) same_words ∙ sym (seen_at from place sight (r ∷ index) (rooted place ruled.scoped.0.0) names.0)) in
        let same_word : op_word seen beyond now (sight_op p sight) ≡ word = sight_word beyond from now p place sight same_place in
        taken_law seen laws given rest (given_type given to) (sight_op p sight) fresh_index (λ t known'' later'. simplified given rest known'' (with_name to t later')) known' further beyond now result
        holding' (sight_constant p sight) (sight_below (length further.spans) further.places p sight below) (sight_stays rest p sight) (sight_lies further beyond p sight) (sight_at beyond p place sight fresh_index root at)
        (λ t known'' further' beyond' later' alike' holding'' t_below t_is t_lies.
        behind rest simplifies scope to word (with_span to whole_i32 (vars_of given known)) known known'' next further' from room beyond' now t
        (record { scoped = ruled.scoped.2; settled = ruled.settled; spanned = ruled.spanned; fitted = ruled.fitted.1; rooted = ruled.rooted }) rooted (λ v. refl) all words names.1
        (later_on next room further beyond further' beyond' later later') (alike_on known next known' further known'' further' alike alike') holding'' t_below (t_is ∙ same_word)
        (subst (λ w. Lies (span_in further' t) w) same_word t_lies)))
      where
        lengths : (rs : List ℕ) → length (map room.regs (map (made_name next) rs)) ≡ length rs
        lengths [] = refl
        lengths (k ∷ rs) = ap suc (lengths rs)

    -- acts that stay as they are except for the names of registers
    act_good : (what new : Act) (rest : Block) (known : Pass) (next : Next) (from room : Room) (now : RunMoment)
        → moment_after_act seen room new now ≡ moment_after_act seen from what now
        → Good seen (simplified given rest known next) room (moment_after_act seen from what now) (run seen rest from (moment_after_act seen from what now))
        → Good seen (simplified given rest known next) room (moment_after_act seen room new now) (run seen rest from (moment_after_act seen from what now))
    act_good what new rest known next from room now is good = subst (λ m. Good seen (simplified given rest known next) room m (run seen rest from (moment_after_act seen from what now))) (sym is) good

    set_simplifies : (var from_reg : ℕ) (rest : Block) → Simplifies rest → Simplifies (Do (SetVar var from_reg) rest)
    set_simplifies var from_reg rest simplifies scope known next from room now ruled rooted holds all words names =
        let is : moment_after_act seen room (SetVar var (made_name next from_reg)) now ≡ moment_after_act seen from (SetVar var from_reg) now =
        ap (λ word. record { vars = put var word now.vars; writes = now.writes; wants = now.wants }) (all from_reg ruled.scoped.0.0).word in
        let fits = laws.runs_fit (Do (SetVar var from_reg) End) (vars_of given known) from now (ruled.spanned.0, tt) words holds.fits in
        let good = act_good (SetVar var from_reg) (SetVar var (made_name next from_reg)) rest known next from room now is
        (simplifies scope known next from room (moment_after_act seen from (SetVar var from_reg) now)
        (record { scoped = ruled.scoped.2; settled = ruled.settled; spanned = ruled.spanned.1; fitted = ruled.fitted.1; rooted = ruled.rooted }) rooted
        (holds_moved seen given (Do (SetVar var from_reg) rest) rest known next room now (moment_after_act seen from (SetVar var from_reg) now)
        (λ x h. (last_none (flag (var == x)) (sets x rest) h, put_other var x (from.regs from_reg) now.vars (first_none (flag (var == x)) (sets x rest) h))) fits holds)
        all words names.1) in
        record { runs = good.runs; names = (tt, good.names) }

    write_simplifies : (layout field from_reg stmt : ℕ) (rest : Block) → Simplifies rest → Simplifies (Do (WriteOwn layout field from_reg stmt) rest)
    write_simplifies layout field from_reg stmt rest simplifies scope known next from room now ruled rooted holds all words names =
        let is : moment_after_act seen room (WriteOwn layout field (made_name next from_reg) stmt) now ≡ moment_after_act seen from (WriteOwn layout field from_reg stmt) now =
        ap (λ word. record { vars = now.vars; writes = now.writes ++ record { layout = layout; field = field; stmt = stmt; at = Some seen.at; way = Own; value = word } ∷ []; wants = now.wants })
        (all from_reg ruled.scoped.0.0).word in
        let fits = laws.runs_fit (Do (WriteOwn layout field from_reg stmt) End) (vars_of given known) from now (tt, tt) words holds.fits in
        let good = act_good (WriteOwn layout field from_reg stmt) (WriteOwn layout field (made_name next from_reg) stmt) rest known next from room now is
        (simplifies scope known next from room (moment_after_act seen from (WriteOwn layout field from_reg stmt) now)
        (record { scoped = ruled.scoped.2; settled = ruled.settled; spanned = ruled.spanned.1; fitted = ruled.fitted.1; rooted = ruled.rooted }) rooted
        (holds_moved seen given (Do (WriteOwn layout field from_reg stmt) rest) rest known next room now (moment_after_act seen from (WriteOwn layout field from_reg stmt) now) (λ x h. (last_none 0 (sets x rest) h, refl)) fits holds)
        all words names.1) in
        record { runs = good.runs; names = (tt, good.names) }

    wish_simplifies : (layout : ℕ) (index : List ℕ) (stmt : ℕ) (rest : Block) → Simplifies rest → Simplifies (Do (Wish layout index stmt) rest)
    wish_simplifies layout index stmt rest simplifies scope known next from room now ruled rooted holds all words names =
        let is : moment_after_act seen room (Wish layout (map (made_name next) index) stmt) now ≡ moment_after_act seen from (Wish layout index stmt) now =
        ap (λ ws. record { vars = now.vars; writes = now.writes; wants = now.wants ++ record { layout = layout; stmt = stmt; at = coord_of ws } ∷ [] })
        (words_renamed seen scope next from room all index ruled.scoped.0) in
        let fits = laws.runs_fit (Do (Wish layout index stmt) End) (vars_of given known) from now (tt, tt) words holds.fits in
        let good = act_good (Wish layout index stmt) (Wish layout (map (made_name next) index) stmt) rest known next from room now is
        (simplifies scope known next from room (moment_after_act seen from (Wish layout index stmt) now)
        (record { scoped = ruled.scoped.2; settled = ruled.settled; spanned = ruled.spanned.1; fitted = ruled.fitted.1; rooted = ruled.rooted }) rooted
        (holds_moved seen given (Do (Wish layout index stmt) rest) rest known next room now (moment_after_act seen from (Wish layout index stmt) now) (λ x h. (last_none 0 (sets x rest) h, refl)) fits holds)
        all words names.1) in
        record { runs = good.runs; names = (tt, good.names) }

    -- a contribution: its place is built anew
    join_simplifies : (how : _) (layout field place from_reg r : ℕ) (index : List ℕ) (stmt : ℕ) (rest : Block) → Simplifies rest → Simplifies (Do (Contribute how layout field place from_reg (r ∷ index) stmt) rest)
    join_simplifies how layout field place from_reg r index stmt rest simplifies scope known next from room now ruled rooted holds all words names =
        let set : AreSet scope.regs (r ∷ index) = ruled.scoped.0.1 in
        let fresh_index = map (made_name next) (r ∷ index) in
        let what = Contribute how layout field place from_reg (r ∷ index) stmt in
        let has : HasLayout seen.shapes layout (length (r ∷ index)) = ruled.fitted.0 in
        let same_words : map room.regs fresh_index ≡ map from.regs (r ∷ index) = words_renamed seen scope next from room all (r ∷ index) set in
        let is_index = index_renamed seen scope next from room all (r ∷ index) set in
        let from_is = all from_reg ruled.scoped.0.0 in
        let holding = holds_moved seen given (Do what rest) rest known next room now now (λ var h. (last_none 0 (sets var rest) h, refl)) holds.fits holds in
        let result = run seen rest from (moment_after_act seen from what now) in
        let fits = laws.runs_fit (Do what End) (vars_of given known) from now (tt, tt) words holds.fits in
        placed_law seen laws given rest now result has.shape layout (made_name next r) (map (made_name next) index)
        (λ p known' later. put_in_front (Do (Contribute how layout field p (made_name next from_reg) fresh_index stmt)) (simplified given rest known' later))
        known next room same has.there (has.leads (map room.regs fresh_index) (lengths (r ∷ index)) (are_words seen scope next from room all (r ∷ index) set)) holding is_index
        (λ p known' further beyond later alike holding' below is root.
        let at : beyond.places p ≡ place_at seen.shapes layout (coord_of (map beyond.regs fresh_index)) =
        is ∙ ap (λ ws. place_at seen.shapes layout (coord_of ws)) (sym (words_kept next room further beyond later fresh_index (index_below next room fresh_index is_index))) in
        let same_place : beyond.places p ≡ from.places place = is ∙ (ap (λ ws. place_at seen.shapes layout (coord_of ws)) same_words ∙ sym names.0) in
        let same_value : beyond.regs (made_name next from_reg) ≡ from.regs from_reg = later.kept (made_name next from_reg) from_is.named ∙ from_is.word in
        let moved : moment_after_act seen beyond (Contribute how layout field p (made_name next from_reg) fresh_index stmt) now ≡ moment_after_act seen from what now =
        ap (λ there. record { vars = now.vars; writes = now.writes ++ record { layout = layout; field = field; stmt = stmt; at = at_of seen.shapes there; way = Acc how; value = beyond.regs (made_name next from_reg) } ∷ []; wants = now.wants }) same_place
        ∙ ap (λ word. record { vars = now.vars; writes = now.writes ++ record { layout = layout; field = field; stmt = stmt; at = at_of seen.shapes (from.places place); way = Acc how; value = word } ∷ []; wants = now.wants }) same_value in
        let good = simplifies scope known' further from beyond (moment_after_act seen from what now)
        (record {
          scoped = ruled.scoped.2;
          settled = ruled.settled;
          fitted = ruled.fitted.1;
          spanned = spanned_same rest (vars_of given known) (vars_of given known') (λ v. ap (λ (loops : List (ℕ × Span)). var_span (record { regs = []; loops = loops; others = given.others }) v) (sym alike.loops)) ruled.spanned.1;
          rooted = ruled.rooted;
        }) rooted
        (holds_moved seen given rest rest known' further beyond now (moment_after_act seen from what now) (λ x h. (h, refl))
        (subst (λ (loops : List (ℕ × Span)). FitsSpans (record { regs = []; loops = loops; others = given.others }) (moment_after_act seen from what now)) (sym alike.loops) fits) holding')
        (renamed_later scope next from room further beyond later alike.names all) words names.1 in
        let moved_good = subst (λ m. Good seen (simplified given rest known' further) beyond m result) (sym moved) good in
        record { runs = moved_good.runs; names = (at, moved_good.names) })
      where
        lengths : (rs : List ℕ) → length (map room.regs (map (made_name next) rs)) ≡ length rs
        lengths [] = refl
        lengths (k ∷ rs) = ap suc (lengths rs)

    branch_simplifies : (cond : ℕ) (block otherwise rest : Block) → Simplifies block → Simplifies otherwise → Simplifies rest → Simplifies (Branch cond block otherwise rest)
    branch_simplifies cond block otherwise rest yes_law no_law rest_law scope known next from room now ruled rooted holds all words names =
        let first = simplified given block known next in
        let second = simplified given otherwise known first.1 in
        let reached = if from.regs cond == 0 then run seen otherwise from now else run seen block from now in
        let grown_first = simplified_grows given block scope ruled.scoped.1 known next in
        let grown_second = grown_on scope next first.1 second.1 grown_first (simplified_grows given otherwise scope ruled.scoped.2 known first.1) in
        let holds_first = holds_moved seen given (Branch cond block otherwise rest) block known next room now now (λ x h. (first_none (sets x block) _ h, refl)) holds.fits holds in
        let holds_second = holds_later seen given otherwise known next room first.1 room now (grown_later scope next first.1 room grown_first) holds.words
        (holds_moved seen given (Branch cond block otherwise rest) otherwise known next room now now (λ x h. (first_none (sets x otherwise) (sets x rest) (last_none (sets x block) _ h), refl)) holds.fits holds) in
        let both = both_ways (from.regs cond == 0) block otherwise first second from room now names.0
        (λ named. yes_law scope known next from room now (record { scoped = ruled.scoped.1; settled = ruled.settled.0; spanned = ruled.spanned.0; fitted = ruled.fitted.0; rooted = ruled.rooted.0 }) rooted holds_first all words named)
        (λ named. no_law scope known first.1 from room now (record { scoped = ruled.scoped.2; settled = ruled.settled.1; spanned = ruled.spanned.1; fitted = ruled.fitted.1; rooted = ruled.rooted.1 }) rooted holds_second
        (renamed_grown scope next first.1 from room grown_first all) words named) in
        let fits = laws.runs_fit (Branch cond block otherwise End) (vars_of given known) from now (ruled.spanned.0, ruled.spanned.1, tt) words holds.fits in
        let more = rest_law scope known second.1 from room reached
        (record { scoped = ruled.scoped.3; settled = ruled.settled.2; spanned = ruled.spanned.2; fitted = ruled.fitted.2; rooted = ruled.rooted.2 }) rooted
        (holds_later seen given rest known next room second.1 room reached (grown_later scope next second.1 room grown_second) holds.words
        (holds_moved seen given (Branch cond block otherwise rest) rest known next room now reached
        (λ x h. (last_none (sets x otherwise) (sets x rest) (last_none (sets x block) _ h), run_leaves seen x (Branch cond block otherwise End) from now (ends x h))) fits holds))
        (renamed_grown scope next second.1 from room grown_second all) words names.1 in
        let same_test : (room.regs (made_name next cond) == 0) ≡ (from.regs cond == 0) = ap (λ word. word == 0) (all cond ruled.scoped.0).word in
        let moved : (if room.regs (made_name next cond) == 0 then run seen second.0 room now else run seen first.0 room now) ≡ reached =
        ap (λ (test : Bool). if test then run seen second.0 room now else run seen first.0 room now) same_test ∙ both.0 in
        let after_both = subst (λ m. Good seen (simplified given rest known second.1) room m (run seen rest from reached)) (sym moved) more in
        record {
          runs = after_both.runs;
          names = (subst (λ (test : Bool). WhereTest test (NamesAll seen second.0 room now) (NamesAll seen first.0 room now)) (sym same_test) both.1, after_both.names);
        }
      where
        ends : (x : ℕ) → sets x block + (sets x otherwise + sets x rest) ≡ 0 → sets x block + (sets x otherwise + 0) ≡ 0
        ends x h = omega (arith, h)

    -- the turns of a loop, from one on
    turns_law : (var : ℕ) (lo hi : ℤ) (body : Block) (made : Block × Next) (known : Pass) (from room : Room) (now : RunMoment) → var_span (vars_of given known) var ≡ whole_i32 → IsSpanned (in_loop var lo hi (vars_of given known)) body → ((r : ℕ) → Lies whole_i32 (from.regs r))
        → ((turn : ℤ) (reached : RunMoment) → FitsSpans (in_loop var lo hi (vars_of given known)) (at_turn var turn reached) → ((x : ℕ) → (flag (var == x) + sets x body) ≡ 0 → reached.vars x ≡ now.vars x)
        → NamesAll seen body from (at_turn var turn reached) → Good seen made room (at_turn var turn reached) (run seen body from (at_turn var turn reached)))
        → (start count : ℕ) → start + count ≤ count_of (hi -ℤ lo) → (reached : RunMoment) → FitsSpans (vars_of given known) reached → ((x : ℕ) → (flag (var == x) + sets x body) ≡ 0 → reached.vars x ≡ now.vars x)
        → EachTurn (λ turn m. NamesAll seen body from (at_turn var turn m)) (λ m turn. run seen body from (at_turn var turn m)) reached (map (λ k. lo +ℤ pos k) (range_with_len start count))
        → (fold (λ m turn. run seen made.0 room (at_turn var turn m)) reached (map (λ k. lo +ℤ pos k) (range_with_len start count))
        ≡ fold (λ m turn. run seen body from (at_turn var turn m)) reached (map (λ k. lo +ℤ pos k) (range_with_len start count)))
        × EachTurn (λ turn m. NamesAll seen made.0 room (at_turn var turn m)) (λ m turn. run seen made.0 room (at_turn var turn m)) reached (map (λ k. lo +ℤ pos k) (range_with_len start count))
    turns_law var lo hi body made known from room now all spanned words each start zero few reached fits stay names = (refl, tt)
    turns_law var lo hi body made known from room now all spanned words each start (suc count) few reached fits stay names =
        let turn = lo +ℤ pos start in
        let inside : (lo ≤ℤ turn) × (turn <ℤ hi) = counted lo hi (hi -ℤ lo) start refl (omega arith) in
        let fits_in = entered (vars_of given known) var lo hi turn reached fits (laws.ranges lo hi turn inside.0 inside.1) in
        let good = each turn reached fits_in stay names.0 in
        let onward = run seen body from (at_turn var turn reached) in
        let fits_out : FitsSpans (vars_of given known) onward = left laws.all_words (vars_of given known) var lo hi onward all (laws.runs_fit body (in_loop var lo hi (vars_of given known)) from (at_turn var turn reached) spanned words fits_in) in
        let stay_on : (x : ℕ) → (flag (var == x) + sets x body) ≡ 0 → onward.vars x ≡ now.vars x = λ x h.
        run_leaves seen x body from (at_turn var turn reached) (last_none (flag (var == x)) (sets x body) h)
        ∙ (put_other var x (word_of turn) reached.vars (first_none (flag (var == x)) (sets x body) h) ∙ stay x h) in
        let more = turns_law var lo hi body made known from room now all spanned words each (start + 1) count (omega arith) onward fits_out stay_on names.1 in (
          ap (λ m. fold (λ m' z. run seen made.0 room (at_turn var z m')) m (map (λ k. lo +ℤ pos k) (range_with_len (start + 1) count))) good.runs ∙ more.0,
          (good.names, subst (λ m. EachTurn (λ z m'. NamesAll seen made.0 room (at_turn var z m')) (λ m' z. run seen made.0 room (at_turn var z m')) m (map (λ k. lo +ℤ pos k) (range_with_len (start + 1) count))) (sym good.runs) more.1),
        )

    loop_simplifies : (var : ℕ) (lo hi : ℤ) (body rest : Block) → Simplifies body → Simplifies rest → Simplifies (Loop var lo hi body rest)
    loop_simplifies var lo hi body rest body_law rest_law scope known next from room now ruled rooted holds all words names =
        let turn = simplified given body (looped var lo hi known) next in
        let reached = fold (λ m z. run seen body from (at_turn var z m)) now (numbers lo hi) in
        let grown = simplified_grows given body scope ruled.scoped.0 (looped var lo hi known) next in
        let turns = turns_law var lo hi body turn known from room now ruled.spanned.0 ruled.spanned.1 words
        (λ z m fits stay named. body_law scope (looped var lo hi known) next from room (at_turn var z m)
        (record { scoped = ruled.scoped.0; settled = ruled.settled.0; spanned = ruled.spanned.1; fitted = ruled.fitted.0; rooted = ruled.rooted.0 }) rooted
        (record {
          ops = ops_moved seen (Loop var lo hi body rest) body next room now (at_turn var z m)
              (λ x h. (
                first_none (sets x body) (sets x rest) (last_none (flag (var == x)) (sets x body + sets x rest) h),
                put_other var x (word_of z) m.vars (first_none (flag (var == x)) (sets x body + sets x rest) h) ∙ stay x (fewer x h),
              )) known.ops holds.ops;
          steps = holds.steps;
          words = holds.words;
          fits = fits;
        }) all words named)
        0 (count_of (hi -ℤ lo)) (omega arith) now holds.fits (λ x h. refl) names.0 in
        let fits = laws.runs_fit (Loop var lo hi body End) (vars_of given known) from now (ruled.spanned.0, ruled.spanned.1, tt) words holds.fits in
        let more = rest_law scope known turn.1 from room reached
        (record { scoped = ruled.scoped.1; settled = ruled.settled.1; spanned = ruled.spanned.2; fitted = ruled.fitted.1; rooted = ruled.rooted.1 }) rooted
        (holds_later seen given rest known next room turn.1 room reached (grown_later scope next turn.1 room grown) holds.words
        (holds_moved seen given (Loop var lo hi body rest) rest known next room now reached
        (λ x h. (last_none (sets x body) (sets x rest) (last_none (flag (var == x)) (sets x body + sets x rest) h), run_leaves seen x (Loop var lo hi body End) from now (ends x h))) fits holds))
        (renamed_grown scope next turn.1 from room grown all) words names.1 in
        let behind_turns = subst (λ m. Good seen (simplified given rest known turn.1) room m (run seen rest from reached)) (sym turns.0) more in
        record { runs = behind_turns.runs; names = (turns.1, behind_turns.names) }
      where
        fewer : (x : ℕ) → flag (var == x) + (sets x body + sets x rest) ≡ 0 → flag (var == x) + sets x body ≡ 0
        fewer x h = none_of (flag (var == x)) (sets x body) (sets x rest) h

        ends : (x : ℕ) → flag (var == x) + (sets x body + sets x rest) ≡ 0 → flag (var == x) + (sets x body + 0) ≡ 0
        ends x h = none_of_three (flag (var == x)) (sets x body) (sets x rest) h

    -- the pass keeps what each block does
    pub simplifies : (block : Block) → Simplifies block
    simplifies End scope known next from room now ruled rooted holds all words names = record { runs = refl; names = tt }
    simplifies (Word to how rest) scope known next from room now ruled rooted holds all words names =
        word_simplifies to how rest (simplifies rest) scope known next from room now ruled rooted holds all words names
    simplifies (Spot to how rest) scope known next from room now ruled rooted holds all words names =
        spot_simplifies to how rest (simplifies rest) scope known next from room now ruled rooted holds all words names
    simplifies (Cell to place sight [] rest) scope known next from room now ruled rooted holds all words names = absurd ruled.fitted.0
    simplifies (Cell to place sight (r ∷ index) rest) scope known next from room now ruled rooted holds all words names =
        cell_simplifies to place r sight index rest (simplifies rest) scope known next from room now ruled rooted holds all words names
    simplifies (Do (SetVar var reg) rest) scope known next from room now ruled rooted holds all words names =
        set_simplifies var reg rest (simplifies rest) scope known next from room now ruled rooted holds all words names
    simplifies (Do (WriteOwn layout field reg stmt) rest) scope known next from room now ruled rooted holds all words names =
        write_simplifies layout field reg stmt rest (simplifies rest) scope known next from room now ruled rooted holds all words names
    simplifies (Do (Contribute how layout field place reg [] stmt) rest) scope known next from room now ruled rooted holds all words names = absurd ruled.fitted.0
    simplifies (Do (Contribute how layout field place reg (r ∷ index) stmt) rest) scope known next from room now ruled rooted holds all words names =
        join_simplifies how layout field place reg r index stmt rest (simplifies rest) scope known next from room now ruled rooted holds all words names
    simplifies (Do (Wish layout index stmt) rest) scope known next from room now ruled rooted holds all words names =
        wish_simplifies layout index stmt rest (simplifies rest) scope known next from room now ruled rooted holds all words names
    simplifies (Branch cond block otherwise rest) scope known next from room now ruled rooted holds all words names =
        branch_simplifies cond block otherwise rest (simplifies block) (simplifies otherwise) (simplifies rest) scope known next from room now ruled rooted holds all words names
    simplifies (Loop var lo hi body rest) scope known next from room now ruled rooted holds all words names =
        loop_simplifies var lo hi body rest (simplifies body) (simplifies rest) scope known next from room now ruled rooted holds all words names
