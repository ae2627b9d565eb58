-- The operand that an operation gives again holds the operation's word, and an operation in its plainest form gives the same word.
use Rattle.std.specs.Prelude.{◌≡◌, refl, ℕ, ◌+◌, ◌*◌, ◌/◌, ◌%◌, ◌^◌, ◌<◌, ◌==◌, Bool, true, false, ◌&&◌, if◌then◌else◌, List, length, slice_get, Option, Some, None, unwrap_or, ℤ, pos, ◌-ℤ◌, ◌≤ℤ◌, int_le, int_lt, nat_lt}
use Rattle.std.proofs.Common.{arith, lit<, sym, ap, subst, ◌∙◌}
use Rattle.std.proofs.lemmas.Bool.{and_parts, eqb-true}
use Rattle.std.proofs.lemmas.Int.{ints}
use Rattle.std.proofs.Math.Nat.{mod-one}
use Rattle.sg_words.specs.declared.operators.Ty.{Ty}
use Rattle.sg_words.specs.declared.operators.Ty.TheVariants as ty
use Rattle.sg_layout.specs.declared.shape.Shape.{Shape}
use Rattle.sg_ir.specs.declared.op.Op.{Op}
use Rattle.sg_ir.specs.declared.op.Op.TheVariants as op
use Rattle.sg_ir.specs.declared.span.Span.{Span}
use Rattle.sg_ir.specs.Blocks.{Block, Sight, sight_op, Value, Activity}
use Rattle.sg_ir.specs.Shared.{same_op, is_pure}
use Rattle.sg_ir.specs.Runs.{Seen}
use Rattle.sg_ir.specs.SpanLaws.{Lies, HasConstantWord}
use Rattle.sg_ir.specs.Trimmed.{Ways, is_within}
use Rattle.sg_ir.specs.Span.{Spans}
use Rattle.sg_ir.specs.WellTyped.{Scope, Frame, is_truth, is_truth_as, reads}
use Rattle.sg_ir.specs.InScope.{InScope, AreSet, op_regs, op_places}
use Rattle.sg_ir.specs.Scoped.{RunMoment, Room, op_word}
use Rattle.sg_ir.specs.Apt.{Use}
use Rattle.sg_simplify.specs.steps.Pass.{Given, Next, span_in, first_of, reg_where, operand_again, plainest}
use Rattle.sg_simplify.specs.steps.Judged.{gives_type, truth_of, operands_fit, IndexIsGood}
use Rattle.sg_simplify.specs.steps.Only.{op_use}
use Rattle.sg_simplify.specs.steps.Serves.{OpBelow, OpStays, OpLies, OpIsAt}
use Rattle.sg_simplify.specs.steps.Sets.{IndexIsSet}
use Rattle.sg_simplify.specs.steps.Trims.{OpIsTrim}

-- ---- the plainest form
-- what holds of an operation, and of 0 if the operation takes a word modulo 1, holds of the plainest form
pub plainest_case : (P : Op → Type 0) (type : Ty) (how : Op) → ((div from : ℕ) → how ≡ op.Extract div 1 from → P (op.Const 0 (is_truth type))) → P how → P (plainest type how)
plainest_case P type (op.Const word truth) nought same = same
plainest_case P type (op.Var var) nought same = same
plainest_case P type (op.Bin how kind a b) nought same = same
plainest_case P type (op.Un how kind a) nought same = same
plainest_case P type (op.Mulq a b s) nought same = same
plainest_case P type (op.Extract div size from) nought same = by_test (size == 1) refl
  where
    by_test : (test : Bool) → (size == 1) ≡ test → P (if test then op.Const 0 (is_truth type) else op.Extract div size from)
    by_test true e = nought div from (ap (λ n. op.Extract div n from) (eqb-true size 1 e))
    by_test false e = same
plainest_case P type (op.Offset high size low) nought same = same
plainest_case P type (op.Read place layout field) nought same = same
plainest_case P type (op.Active place) nought same = same
plainest_case P type (op.OwnRead layout field) nought same = same

pub plainest_pure : (single : ℕ → Bool) (type : Ty) (how : Op) → is_pure single (plainest type how) ≡ is_pure single how
plainest_pure single type how = plainest_case (λ o. is_pure single o ≡ is_pure single how) type how (λ div from e. ap (is_pure single) (sym e)) refl

pub plainest_use : (test : Use → Bool) (type : Ty) (how : Op) → op_use test (plainest type how) ≡ op_use test how
plainest_use test type how = plainest_case (λ o. op_use test o ≡ op_use test how) type how (λ div from e. ap (op_use test) (sym e)) refl

pub plainest_places : (type : Ty) (how : Op) → op_places (plainest type how) ≡ op_places how
plainest_places type how = plainest_case (λ o. op_places o ≡ op_places how) type how (λ div from e. ap op_places (sym e)) refl

pub plainest_regs : (set : ℕ → Bool) (type : Ty) (how : Op) → AreSet set (op_regs how) → AreSet set (op_regs (plainest type how))
plainest_regs set type how regs = plainest_case (λ o. AreSet set (op_regs o)) type how (λ div from e. tt) regs

pub plainest_index : (scope : InScope) (type : Ty) (how : Op) (index : List ℕ) → IndexIsSet scope how index → IndexIsSet scope (plainest type how) index
plainest_index scope type how index set = plainest_case (λ o. IndexIsSet scope o index) type how (λ div from e. tt) set

pub plainest_trim : (good : ℕ → Bool) (given : Given) (spans : Spans) (ways : Ways) (type : Ty) (how : Op) (index : List ℕ) → OpIsTrim good given spans ways how index → OpIsTrim good given spans ways (plainest type how) index
plainest_trim good given spans ways type how index trim = plainest_case (λ o. OpIsTrim good given spans ways o index) type how (λ div from e. tt) trim

pub plainest_unread : (type : Ty) (how : Op) (place : ℕ) (sight : Sight) → same_op (sight_op place sight) how ≡ false → same_op (sight_op place sight) (plainest type how) ≡ false
plainest_unread type how place (Value layout field) off = plainest_case (λ o. same_op (op.Read place layout field) o ≡ false) type how (λ div from e. refl) off
plainest_unread type how place Activity off = plainest_case (λ o. same_op (op.Active place) o ≡ false) type how (λ div from e. refl) off

pub plainest_constant : (type : Ty) (how : Op) → HasConstantWord how → HasConstantWord (plainest type how)
plainest_constant type how has = plainest_case HasConstantWord type how (λ div from e. lit< tt) has

pub plainest_below : (regs places : ℕ) (type : Ty) (how : Op) → OpBelow regs places how → OpBelow regs places (plainest type how)
plainest_below regs places type how below = plainest_case (OpBelow regs places) type how (λ div from e. tt) below

pub plainest_stays : (rest : Block) (type : Ty) (how : Op) → OpStays rest how → OpStays rest (plainest type how)
plainest_stays rest type how stays = plainest_case (OpStays rest) type how (λ div from e. tt) stays

pub plainest_lies : (next : Next) (room : Room) (type : Ty) (how : Op) → OpLies next room how → OpLies next room (plainest type how)
plainest_lies next room type how lies = plainest_case (OpLies next room) type how (λ div from e. tt) lies

pub plainest_at : (shapes : List Shape) (room : Room) (type : Ty) (how : Op) (index : List ℕ) → OpIsAt shapes room how index → OpIsAt shapes room (plainest type how) index
plainest_at shapes room type how index at = plainest_case (λ o. OpIsAt shapes room o index) type how (λ div from e. tt) at

pub plainest_word : (seen : Seen) (room : Room) (now : RunMoment) (type : Ty) (how : Op) → op_word seen room now (plainest type how) ≡ op_word seen room now how
plainest_word seen room now type how =
    plainest_case (λ o. op_word seen room now o ≡ op_word seen room now how) type how (λ div from e. sym (ap (op_word seen room now) e ∙ mod-one (room.regs from / div))) refl

pub plainest_fits : (at : Frame) (scope : Scope) (type : Ty) (how : Op) → operands_fit at scope how ≡ true → operands_fit at scope (plainest type how) ≡ true
plainest_fits at scope type how fits = plainest_case (λ o. operands_fit at scope o ≡ true) type how (λ div from e. refl) fits

pub plainest_good : (at : Frame) (scope : Scope) (type : Ty) (how : Op) (index : List ℕ) → IndexIsGood at scope how index → IndexIsGood at scope (plainest type how) index
plainest_good at scope type how index good = plainest_case (λ o. IndexIsGood at scope o index) type how (λ div from e. tt) good

own_truth : (type : Ty) → is_truth_as (is_truth type) (Some type) ≡ true
own_truth ty.I32 = refl
own_truth ty.U32 = refl
own_truth ty.Bool = refl

no_truth : (type : Ty) → is_truth_as false (Some type) ≡ true → is_truth type ≡ false
no_truth ty.I32 e = refl
no_truth ty.U32 e = refl
no_truth ty.Bool e = absurd (cc)

pub plainest_type : (shapes : List Shape) (vars : List Ty) (type : Ty) (how : Op) → gives_type (truth_of shapes vars how) (Some type) ≡ true → gives_type (truth_of shapes vars (plainest type how)) (Some type) ≡ true
plainest_type shapes vars type how fits = plainest_case (λ o. gives_type (truth_of shapes vars o) (Some type) ≡ true) type how (λ div from e. own_truth type) fits

pub plainest_truth : (shapes : List Shape) (vars : List Ty) (type : Ty) (how : Op) → gives_type (truth_of shapes vars how) (Some type) ≡ true → truth_of shapes vars (plainest type how) ≡ truth_of shapes vars how
plainest_truth shapes vars type how fits = plainest_case (λ o. truth_of shapes vars o ≡ truth_of shapes vars how) type how
    (λ div from e. ap Some (no_truth type (subst (λ (o : Op). gives_type (truth_of shapes vars o) (Some type) ≡ true) e fits)) ∙ ap (truth_of shapes vars) (sym e)) refl

-- ---- the operand
some_is : (r t : ℕ) → Some r ≡ Some t → r ≡ t
some_is r t e = ap (λ o. unwrap_or o 0) e

where_is : (P : ℕ → Type 0) (test : Bool) (r t : ℕ) → reg_where test r ≡ Some t → (test ≡ true → P r) → P t
where_is P true r t e holds = subst P (some_is r t e) (holds refl)
where_is P false r t e holds = absurd (cc)

first_is : (P : ℕ → Type 0) (a b : Option ℕ) (t : ℕ) → first_of a b ≡ Some t → (a ≡ Some t → P t) → (b ≡ Some t → P t) → P t
first_is P (Some r) b t e one other = one e
first_is P None b t e one other = other e

-- an operation that gives an operand again takes the whole of it, or adds 0 to it
pub operand_case : (P : Op → ℕ → Type 0) (next : Next) (how : Op) (t : ℕ) → operand_again next how ≡ Some t
    → ((size r : ℕ) → is_within size (span_in next r) ≡ true → P (op.Extract 1 size r) r)
    → ((high size low : ℕ) → is_within 1 (span_in next high) ≡ true → P (op.Offset high size low) low)
    → ((high low : ℕ) → is_within 1 (span_in next low) ≡ true → P (op.Offset high 1 low) high) → P how t
operand_case P next (op.Const word truth) t e whole low high = absurd (cc)
operand_case P next (op.Var var) t e whole low high = absurd (cc)
operand_case P next (op.Bin how kind a b) t e whole low high = absurd (cc)
operand_case P next (op.Un how kind a) t e whole low high = absurd (cc)
operand_case P next (op.Mulq a b s) t e whole low high = absurd (cc)
operand_case P next (op.Extract div size from) t e whole low high =
    where_is (P (op.Extract div size from)) ((div == 1) && is_within size (span_in next from)) from t e
    (λ test. let parts = and_parts (div == 1) (is_within size (span_in next from)) test in
    subst (λ n. P (op.Extract n size from) from) (sym (eqb-true div 1 parts.0)) (whole size from parts.1))
operand_case P next (op.Offset a size b) t e whole low high =
    first_is (P (op.Offset a size b)) (reg_where (is_within 1 (span_in next a)) b) (reg_where ((size == 1) && is_within 1 (span_in next b)) a) t e
    (λ one. where_is (P (op.Offset a size b)) (is_within 1 (span_in next a)) b t one (λ test. low a size b test))
    (λ other. where_is (P (op.Offset a size b)) ((size == 1) && is_within 1 (span_in next b)) a t other
    (λ test. let parts = and_parts (size == 1) (is_within 1 (span_in next b)) test in
    subst (λ n. P (op.Offset a n b) a) (sym (eqb-true size 1 parts.0)) (high a b parts.1)))
operand_case P next (op.Read place layout field) t e whole low high = absurd (cc)
operand_case P next (op.Active place) t e whole low high = absurd (cc)
operand_case P next (op.OwnRead layout field) t e whole low high = absurd (cc)

pub operand_is_set : (set : ℕ → Bool) (next : Next) (how : Op) (t : ℕ) → AreSet set (op_regs how) → operand_again next how ≡ Some t → set t ≡ true
operand_is_set set next how t regs e =
    operand_case (λ o r. AreSet set (op_regs o) → set r ≡ true) next how t e (λ size r within are. are.0) (λ high size low within are. are.1.0) (λ high low within are. are.0) regs

pub operand_fits : (shapes : List Shape) (vars : List Ty) (at : Frame) (scope : Scope) (next : Next) (how : Op) (t : ℕ) → operands_fit at scope how ≡ true → operand_again next how ≡ Some t
    → (scope.regs t ≡ true) × (gives_type (truth_of shapes vars how) (slice_get at.regs t) ≡ true)
operand_fits shapes vars at scope next how t fits e =
    operand_case (λ o r. operands_fit at scope o ≡ true → (scope.regs r ≡ true) × (gives_type (truth_of shapes vars o) (slice_get at.regs r) ≡ true)) next how t e
    (λ size r within fit. read_parts r (and_parts (nat_lt 0 size) (reads at scope false r) fit).1)
    (λ high size low within fit. read_parts low (and_parts (reads at scope false high) (reads at scope false low) (and_parts (nat_lt 0 size) (reads at scope false high && reads at scope false low) fit).1).1)
    (λ high low within fit. read_parts high (and_parts (reads at scope false high) (reads at scope false low) fit).0) fits
  where
    read_parts : (r : ℕ) → reads at scope false r ≡ true → (scope.regs r ≡ true) × (is_truth_as false (slice_get at.regs r) ≡ true)
    read_parts r can = let parts = and_parts (scope.regs r) (is_truth_as false (slice_get at.regs r)) can in (parts.0, parts.1)

-- a word whose span is within an extent is below it
below_extent : (extent : ℕ) (span : Span) (word : ℕ) → is_within extent span ≡ true → Lies span word → word < extent
below_extent extent span word within lies = by_test (nat_lt word (2 ^ 31)) refl lies.low lies.high
  where
    small : word < 2 ^ 32
    small = lies.is_word

    by_test : (test : Bool) → nat_lt word (2 ^ 31) ≡ test → span.lo ≤ℤ (if test then pos word else (pos word -ℤ pos (2 ^ 32))) → (if test then pos word else (pos word -ℤ pos (2 ^ 32))) ≤ℤ span.hi → word < extent
    by_test true e low high = up span.lo span.hi within low high
      where
        up : (lo hi : ℤ) → (int_le (pos 0) lo && int_lt hi (pos extent)) ≡ true → lo ≤ℤ pos word → pos word ≤ℤ hi → word < extent
        up lo hi both a b = grind (arith, ints)
    by_test false e low high = down span.lo span.hi within low high
      where
        down : (lo hi : ℤ) → (int_le (pos 0) lo && int_lt hi (pos extent)) ≡ true → lo ≤ℤ (pos word -ℤ pos (2 ^ 32)) → (pos word -ℤ pos (2 ^ 32)) ≤ℤ hi → word < extent
        down lo hi both a b = grind (arith, ints)

-- an operand that holds the operation's word
pub record OperandHolds (seen : Seen) (room : Room) (now : RunMoment) (next : Next) (how : Op) (t : ℕ) : Type 0 where
  pub named : t < length next.spans
  pub word : room.regs t ≡ op_word seen room now how
  pub lies : Lies (span_in next t) (room.regs t)

pub operand_holds : (seen : Seen) (room : Room) (now : RunMoment) (next : Next) (how : Op) (t : ℕ) → OpBelow (length next.spans) next.places how → OpLies next room how → operand_again next how ≡ Some t
    → OperandHolds seen room now next how t
operand_holds seen room now next how t below lies e =
    operand_case (λ o r. OpBelow (length next.spans) next.places o → OpLies next room o → OperandHolds seen room now next o r) next how t e
    (λ size r within under lie. record { named = under; word = whole_word (room.regs r) size (below_extent size (span_in next r) (room.regs r) within lie); lies = lie })
    (λ high size low within under lie. record { named = under.1; word = low_word (room.regs high) size (room.regs low) (below_extent 1 (span_in next high) (room.regs high) within lie.0) lie.1.is_word; lies = lie.1 })
    (λ high low within under lie. record { named = under.0; word = high_word (room.regs high) (room.regs low) (below_extent 1 (span_in next low) (room.regs low) within lie.1) lie.0.is_word; lies = lie.0 }) below lies
  where
    whole_word : (x size : ℕ) → x < size → x ≡ x / 1 % size
    whole_word x size h = grind arith

    low_word : (h size x : ℕ) → h < 1 → x < 2 ^ 32 → x ≡ (h * size + x) % 2 ^ 32
    low_word h size x none small = grind arith

    high_word : (x l : ℕ) → l < 1 → x < 2 ^ 32 → x ≡ (x * 1 + l) % 2 ^ 32
    high_word x l none small = omega arith
