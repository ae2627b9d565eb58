-- Given registers in scope have new ones with the same words.
use Rattle.std.specs.Prelude.{◌≡◌, refl, ℕ, ◌<◌, ◌==◌, Bool, true, false, if◌then◌else◌, List, [], ◌∷◌, length, map, nat_eq, unwrap_or}
use Rattle.std.specs.Map.{lookup}
use Rattle.std.proofs.Common.{arith, sym, ap, subst, ◌∙◌}
use Rattle.std.proofs.lemmas.Bool.{eqb-true}
use Rattle.sg_words.specs.WordLaws.{IsWord}
use Rattle.sg_ir.specs.declared.op.Op.{Op}
use Rattle.sg_ir.specs.declared.op.Op.TheVariants as op
use Rattle.sg_ir.specs.Runs.{Seen}
use Rattle.sg_ir.specs.Blocks.{Block, End, Word, Spot, Cell, Do, Branch, Loop, SetVar, WriteOwn, Contribute, Wish}
use Rattle.sg_ir.specs.declared.span.Span.{Span}
use Rattle.sg_ir.specs.Span.{whole_i32, Spans, range_span, var_span, with_span, in_loop, op_span}
use Rattle.sg_ir.specs.Shared.{is_pure}
use Rattle.sg_ir.specs.SpanLaws.{Lies, HasConstantWord, IsSpanned}
use Rattle.sg_ir.specs.Scoped.{RunMoment, Room, room_reg, room_place, op_word}
use Rattle.sg_ir.specs.InScope.{InScope, and_reg, and_place, op_regs, AreSet}
use Rattle.sg_simplify.specs.steps.Pass.{Next, made_name, with_name, span_in, renamed}
use Rattle.sg_simplify.specs.steps.Serves.{EachByRecursion, Later, OpBelow, OpStays, OpIsAt, OpLies, IsIndex}
use Rattle.sg_simplify.specs.steps.Ruled.{OpSettles, IsNotRead, IsRenamed, AllRenamed, Grown}
use Rattle.sg_simplify.proofs.Growing.{name_here, name_other}

-- later, and after what has grown
renamed_at : (next : Next) (from to : Room) (further : Next) (beyond : Room) (r : ℕ) → Later next to further beyond → made_name further r ≡ made_name next r → IsRenamed next from to r → IsRenamed further from beyond r
renamed_at next from to further beyond r later name h = let below = h.named in let more = later.regs in record {
  named = rw name (omega arith);
  word = ap beyond.regs name ∙ (later.kept (made_name next r) h.named ∙ h.word);
  lies = subst (λ k. Lies (span_in further k) (beyond.regs k)) (sym name) (rw (later.spans (made_name next r) h.named, later.kept (made_name next r) h.named) h.lies);
}

pub renamed_later : (scope : InScope) (next : Next) (from to : Room) (further : Next) (beyond : Room) → Later next to further beyond → further.names ≡ next.names → AllRenamed scope next from to → AllRenamed scope further from beyond
renamed_later scope next from to further beyond later names all r is =
    renamed_at next from to further beyond r later (ap (λ (table : List (ℕ × ℕ)). unwrap_or (lookup (nat_eq r) table) r) names) (all r is)

pub grown_later : (scope : InScope) (next further : Next) (room : Room) → Grown scope next further → Later next room further room
grown_later scope next further room h = record { regs = h.regs; places = h.places; spans = h.spans; kept = λ r below. refl; kept_places = λ p below. refl; kept_roots = λ p below. refl }

pub renamed_grown : (scope : InScope) (next further : Next) (from to : Room) → Grown scope next further → AllRenamed scope next from to → AllRenamed scope further from to
renamed_grown scope next further from to h all r is = renamed_at next from to further to r (grown_later scope next further to h) (h.names r is) (all r is)

pub name_later : (next : Next) (room : Room) (to t : ℕ) → Later next room (with_name to t next) room
name_later next room to t = record { regs = omega arith; places = omega arith; spans = λ r below. refl; kept = λ r below. refl; kept_places = λ p below. refl; kept_roots = λ p below. refl }

-- after a given register that is set
pub renamed_put : (scope : InScope) (next : Next) (from to : Room) (k t word : ℕ) → AllRenamed scope next from to → t < length next.spans → to.regs t ≡ word → Lies (span_in next t) word
    → AllRenamed (and_reg k scope) (with_name k t next) (room_reg k word from) to
renamed_put scope next from to k t word all below is lies r set = by_test (r == k) refl set
  where
    by_test : (test : Bool) → (r == k) ≡ test → (if test then true else scope.regs r) ≡ true → IsRenamed (with_name k t next) (room_reg k word from) to r
    by_test true e h = let name : made_name (with_name k t next) r ≡ t = ap (made_name (with_name k t next)) (eqb-true r k e) ∙ name_here next k t in record {
      named = rw name below;
      word = ap to.regs name ∙ (is ∙ sym (ap (λ (test : Bool). if test then word else from.regs r) e));
      lies = subst (λ n. Lies (span_in next n) (to.regs n)) (sym name) (rw is lies);
    }
    by_test false e h = let name : made_name (with_name k t next) r ≡ made_name next r = name_other next k t r e in record {
      named = rw name (all r h).named;
      word = ap to.regs name ∙ ((all r h).word ∙ sym (ap (λ (test : Bool). if test then word else from.regs r) e));
      lies = subst (λ n. Lies (span_in next n) (to.regs n)) (sym name) (all r h).lies;
    }

pub renamed_spot : (scope : InScope) (next : Next) (from to : Room) (k root : ℕ) (place : _) → AllRenamed scope next from to → AllRenamed (and_place k scope) next (room_place k root place from) to
renamed_spot scope next from to k root place all r is = let h = all r is in record { named = h.named; word = h.word; lies = h.lies }

-- an operation on the new registers
module _ (seen : Seen) (scope : InScope) (next : Next) (from to : Room) (all : AllRenamed scope next from to) where
  pub op_renamed : (now : RunMoment) (how : Op) → IsNotRead how → AreSet scope.regs (op_regs how) → op_word seen to now (renamed next how) ≡ op_word seen from now how
  op_renamed now (op.Const word truth) plain set = refl
  op_renamed now (op.Var var) plain set = refl
  op_renamed now (op.Bin how kind a b) plain set = rw ((all a set.0).word, (all b set.1.0).word) refl
  op_renamed now (op.Un how kind a) plain set = rw ((all a set.0).word) refl
  op_renamed now (op.Mulq a b s) plain set = rw ((all a set.0).word, (all b set.1.0).word, (all s set.1.1.0).word) refl
  op_renamed now (op.Extract div size r) plain set = rw ((all r set.0).word) refl
  op_renamed now (op.Offset high size low) plain set = rw ((all high set.0).word, (all low set.1.0).word) refl
  op_renamed now (op.Read place layout field) plain set = absurd plain
  op_renamed now (op.Active place) plain set = absurd plain
  op_renamed now (op.OwnRead layout field) plain set = refl

  pub op_renamed_below : (how : Op) → IsNotRead how → AreSet scope.regs (op_regs how) → OpBelow (length next.spans) next.places (renamed next how)
  op_renamed_below (op.Const word truth) plain set = tt
  op_renamed_below (op.Var var) plain set = tt
  op_renamed_below (op.Bin how kind a b) plain set = ((all a set.0).named, (all b set.1.0).named)
  op_renamed_below (op.Un how kind a) plain set = (all a set.0).named
  op_renamed_below (op.Mulq a b s) plain set = ((all a set.0).named, (all b set.1.0).named, (all s set.1.1.0).named)
  op_renamed_below (op.Extract div size r) plain set = (all r set.0).named
  op_renamed_below (op.Offset high size low) plain set = ((all high set.0).named, (all low set.1.0).named)
  op_renamed_below (op.Read place layout field) plain set = absurd plain
  op_renamed_below (op.Active place) plain set = absurd plain
  op_renamed_below (op.OwnRead layout field) plain set = tt

  pub op_renamed_lies : (how : Op) → IsNotRead how → AreSet scope.regs (op_regs how) → OpLies next to (renamed next how)
  op_renamed_lies (op.Const word truth) plain set = tt
  op_renamed_lies (op.Var var) plain set = tt
  op_renamed_lies (op.Bin how kind a b) plain set = ((all a set.0).lies, (all b set.1.0).lies)
  op_renamed_lies (op.Un how kind a) plain set = tt
  op_renamed_lies (op.Mulq a b s) plain set = tt
  op_renamed_lies (op.Extract div size r) plain set = (all r set.0).lies
  op_renamed_lies (op.Offset high size low) plain set = ((all high set.0).lies, (all low set.1.0).lies)
  op_renamed_lies (op.Read place layout field) plain set = absurd plain
  op_renamed_lies (op.Active place) plain set = absurd plain
  op_renamed_lies (op.OwnRead layout field) plain set = tt

  -- index registers
  pub index_renamed : (index : List ℕ) → AreSet scope.regs index → EachByRecursion (IsIndex next to) (map (made_name next) index)
  index_renamed [] set = tt
  index_renamed (r ∷ index) set = (((all r set.0).named, (all r set.0).lies), index_renamed index set.1)

  pub words_renamed : (index : List ℕ) → AreSet scope.regs index → map to.regs (map (made_name next) index) ≡ map from.regs index
  words_renamed [] set = refl
  words_renamed (r ∷ index) set = rw ((all r set.0).word, words_renamed index set.1) refl

  pub are_words : (index : List ℕ) → AreSet scope.regs index → EachByRecursion IsWord (map to.regs (map (made_name next) index))
  are_words [] set = tt
  are_words (r ∷ index) set = ((all r set.0).lies.is_word, are_words index set.1)

pub has_renamed : (next : Next) (how : Op) → HasConstantWord how → HasConstantWord (renamed next how)
has_renamed next (op.Const word truth) has = has
has_renamed next (op.Var var) has = tt
has_renamed next (op.Bin how kind a b) has = tt
has_renamed next (op.Un how kind a) has = tt
has_renamed next (op.Mulq a b s) has = tt
has_renamed next (op.Extract div size r) has = tt
has_renamed next (op.Offset high size low) has = tt
has_renamed next (op.Read place layout field) has = tt
has_renamed next (op.Active place) has = tt
has_renamed next (op.OwnRead layout field) has = tt

pub stays_renamed : (single : ℕ → Bool) (rest : Block) (next : Next) (how : Op) → is_pure single how ≡ true → IsNotRead how → OpSettles single rest how → OpStays rest (renamed next how)
stays_renamed single rest next (op.Const word truth) pure plain settles = tt
stays_renamed single rest next (op.Var var) pure plain settles = settles pure
stays_renamed single rest next (op.Bin how kind a b) pure plain settles = tt
stays_renamed single rest next (op.Un how kind a) pure plain settles = tt
stays_renamed single rest next (op.Mulq a b s) pure plain settles = tt
stays_renamed single rest next (op.Extract div size r) pure plain settles = tt
stays_renamed single rest next (op.Offset high size low) pure plain settles = tt
stays_renamed single rest next (op.Read place layout field) pure plain settles = absurd plain
stays_renamed single rest next (op.Active place) pure plain settles = absurd plain
stays_renamed single rest next (op.OwnRead layout field) pure plain settles = absurd (cc)

pub at_renamed : (seen : Seen) (room : Room) (next : Next) (how : Op) → IsNotRead how → OpIsAt seen.shapes room (renamed next how) []
at_renamed seen room next (op.Const word truth) plain = tt
at_renamed seen room next (op.Var var) plain = tt
at_renamed seen room next (op.Bin how kind a b) plain = tt
at_renamed seen room next (op.Un how kind a) plain = tt
at_renamed seen room next (op.Mulq a b s) plain = tt
at_renamed seen room next (op.Extract div size r) plain = tt
at_renamed seen room next (op.Offset high size low) plain = tt
at_renamed seen room next (op.Read place layout field) plain = absurd plain
at_renamed seen room next (op.Active place) plain = absurd plain
at_renamed seen room next (op.OwnRead layout field) plain = tt

-- what is spanned is so wherever variables have the same spans
pub spanned_same : (block : Block) (s t : Spans) → ((v : ℕ) → var_span s v ≡ var_span t v) → IsSpanned s block → IsSpanned t block
spanned_same End s t same h = tt
spanned_same (Word to how rest) s t same h = (h.0, spanned_same rest (with_span to (op_span s how) s) (with_span to (op_span t how) t) same h.1)
spanned_same (Spot to how rest) s t same h = spanned_same rest s t same h
spanned_same (Cell to place sight index rest) s t same h = spanned_same rest (with_span to whole_i32 s) (with_span to whole_i32 t) same h
spanned_same (Do (SetVar var from) rest) s t same h = (sym (same var) ∙ h.0, spanned_same rest s t same h.1)
spanned_same (Do (WriteOwn layout field from stmt) rest) s t same h = (tt, spanned_same rest s t same h.1)
spanned_same (Do (Contribute how layout field place from index stmt) rest) s t same h = (tt, spanned_same rest s t same h.1)
spanned_same (Do (Wish layout index stmt) rest) s t same h = (tt, spanned_same rest s t same h.1)
spanned_same (Branch cond block otherwise rest) s t same h = (spanned_same block s t same h.0, spanned_same otherwise s t same h.1, spanned_same rest s t same h.2)
spanned_same (Loop var lo hi body rest) s t same h = (
  sym (same var) ∙ h.0,
  spanned_same body (in_loop var lo hi s) (in_loop var lo hi t) (λ v. ap (λ (span : Span). if v == var then range_span lo hi else span) (same v)) h.1,
  spanned_same rest s t same h.2,
)
