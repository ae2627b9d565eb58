-- What one emitted instruction adds to judgements, and one addition after another.
use Rattle.std.proofs.Common.{◌≡◌, ℕ, zero, suc, ◌+◌, ◌<◌, ◌≤◌, Bool, true, false, ◌&&◌, List, [], ◌∷◌, ◌++◌, length, All, get_or, refl, sym, ap, ◌∙◌, subst, append_assoc, arith, Some}
use Rattle.std.specs.Prelude.{slice_get}
use Rattle.std.specs.List.{range_with_len, flat_map}
use Rattle.std.proofs.lemmas.Bool.{and_from}
use Rattle.std.proofs.lemmas.List.{length_push, append-nil, length-append}
use Rattle.sg_words.specs.declared.operators.Ty.{Ty}
use Rattle.sg_layout.specs.declared.shape.Shape.{Shape}
use Rattle.sg_ir.specs.declared.code.Inst.{Inst, fold-Inst}
use Rattle.sg_ir.specs.declared.names.Names.{Names}
use Rattle.sg_ir.specs.WellTyped.{Scope, Frame, judge_step, with_reg, is_truth_as, judges, judged, SetName, SetsReg, SetsPlace, sets_step, settings, set_regs, set_places, reg_number, place_number}
use Rattle.sg_ir.specs.Emits.{AddsReg, PutsReg, PutsPlace}
use Rattle.sg_ir.specs.EmitTypes.{GoesOn, Begins, IsFinal, KeepsScope, Adds, CanRead}
use Rattle.sg_ir.proofs.Judging.{judged-more, set_regs-append, set_places-append}
use Rattle.sg_ir.proofs.Emitting.{put-other}

pub range-append : (from a b : ℕ) → range_with_len from (a + b) ≡ range_with_len from a ++ range_with_len (from + a) b
range-append from zero b =
    let e : zero + b ≡ b = omega arith in
    let f : from ≡ from + zero = omega arith in
    ap (range_with_len from) e ∙ ap (λ k. range_with_len k b) f
range-append from (suc a) b =
    let e : suc a + b ≡ suc (a + b) = omega arith in
    let f : from + 1 + a ≡ from + suc a = omega arith in
    ap (range_with_len from) e ∙ ap (λ more. from ∷ more) (range-append (from + 1) a b ∙ ap (λ k. range_with_len (from + 1) a ++ range_with_len k b) f)

pub goes_on-same : (from : ℕ) (xs : List ℕ) → GoesOn from from xs xs
goes_on-same from xs = record { count = 0; to_is = omega arith; list = sym (append-nil xs) }

pub goes_on-trans : (a b c : ℕ) (xs ys zs : List ℕ) → GoesOn a b xs ys → GoesOn b c ys zs → GoesOn a c xs zs
goes_on-trans a b c xs ys zs first second =
    let one = first.to_is in
    let two = second.to_is in
    record {
      count = first.count + second.count;
      to_is = omega arith;
      list =
          second.list ∙ ap (λ l. l ++ range_with_len b second.count) first.list ∙ append_assoc xs (range_with_len a first.count) (range_with_len b second.count)
          ∙ ap (λ l. xs ++ l) (ap (λ k. range_with_len a first.count ++ range_with_len k second.count) one ∙ sym (range-append a first.count second.count));
    }

pub goes_on-one : (from to number : ℕ) (xs ys : List ℕ) → to ≡ from + 1 → number ≡ from → ys ≡ xs ++ number ∷ [] → GoesOn from to xs ys
goes_on-one from to number xs ys one same more = record { count = 1; to_is = one; list = more ∙ ap (λ n. xs ++ n ∷ []) same }

slice_get-front : {A : Type 0} (xs ys : List A) (i : ℕ) → i < length xs → slice_get (xs ++ ys) i ≡ slice_get xs i
slice_get-front [] ys i below = absurd (omega arith)
slice_get-front (x ∷ xs) ys zero below = refl
slice_get-front (x ∷ xs) ys (suc i) below = slice_get-front xs ys i (omega arith)

slice_get-last : {A : Type 0} (xs : List A) (x : A) (i : ℕ) → i ≡ length xs → slice_get (xs ++ x ∷ []) i ≡ Some x
slice_get-last {A} xs x i same = ap (slice_get (xs ++ x ∷ [])) same ∙ last xs x
  where
    last : (xs : List A) (x : A) → slice_get (xs ++ x ∷ []) (length xs) ≡ Some x
    last [] x = refl
    last (y ∷ xs) x = last xs x

-- what is final for more names is final for those before
pub final-before : (old new : Names) (at : Frame) → Begins old new → old.places ≤ new.places → IsFinal new at → IsFinal old at
final-before old new at begins places final =
    let more = final.places in
    let longer : length new.regs ≡ length old.regs + length begins.types = ap length begins.regs ∙ length-append old.regs begins.types in
    record {
      regs = λ r below. final.regs r (omega arith) ∙ ap (λ ts. slice_get ts r) begins.regs ∙ slice_get-front old.regs begins.types r below;
      places = omega arith;
    }

-- the type of a register that was just added
pub final-type : (given : Ty) (to : ℕ) (old new : Names) (at : Frame) → AddsReg given to old new → IsFinal new at → slice_get at.regs to ≡ Some given
final-type given to old new at adds final =
    let number = adds.number in
    let longer : length new.regs ≡ length old.regs + 1 = ap length adds.regs ∙ length_push old.regs given in
    final.regs to (omega arith) ∙ ap (λ ts. slice_get ts to) adds.regs ∙ slice_get-last old.regs given to number

-- ---- one instruction
-- one that sets a register, under a test
pub adds-reg : (shapes : List Shape) (needs gains : Frame → Scope → Type 0) (given : Ty) (inst : ℕ → Inst) (test : Frame → Scope → Bool) (to : ℕ) (old new : Names) (before after : List Inst) →
    PutsReg given inst to old new before after →
    fold-Inst (List SetName) sets_step (inst to) ≡ SetsReg to ∷ [] →
    ((at : Frame) (scope : Scope) → judges at (inst to) scope ≡ (test at scope, with_reg to scope)) →
    ((at : Frame) (scope : Scope) → at.shapes ≡ shapes → slice_get at.regs to ≡ Some given → needs at scope → test at scope ≡ true) →
    ((at : Frame) (scope : Scope) → at.shapes ≡ shapes → slice_get at.regs to ≡ Some given → needs at scope → gains at (with_reg to scope)) →
    Adds shapes needs gains old new before after
adds-reg shapes needs gains given inst test to old new before after puts sets judge passes gained =
    let number = puts.names.number in
    let longer : length new.regs ≡ length old.regs + 1 = ap length puts.names.regs ∙ length_push old.regs given in
    let one : settings (inst to ∷ []) ≡ SetsReg to ∷ [] = ap (λ l. l ++ []) sets in
    let ran : (at : Frame) (scope : Scope) → judged at after scope ≡ judge_step (judged at before scope) (judges at (inst to)) =
    λ at scope. ap (λ b. judged at b scope) puts.block ∙ judged-more at before (inst to) scope in
    let behind : (at : Frame) (scope : Scope) → (judged at after scope).1 ≡ with_reg to (judged at before scope).1 =
    λ at scope. ap (λ (p : Bool × Scope). p.1) (ran at scope) ∙ ap (λ (p : Bool × Scope). p.1) (judge at (judged at before scope).1) in
    record {
      begins = record { types = given ∷ []; regs = puts.names.regs };
      set_regs = goes_on-one (length old.regs) (length new.regs) to (set_regs before) (set_regs after) longer number
          (ap set_regs puts.block ∙ set_regs-append before (inst to ∷ []) ∙ ap (λ ss. set_regs before ++ flat_map reg_number ss) one);
      set_places = goes_on-kept old.places new.places (set_places before) (set_places after) puts.names.places
          (ap set_places puts.block ∙ set_places-append before (inst to ∷ []) ∙ ap (λ ss. set_places before ++ flat_map place_number ss) one ∙ append-nil (set_places before));
      keeps = λ at same scope. record {
        regs = λ r below. ap (λ (s : Scope). s.regs r) (behind at scope) ∙ put-other to r true (judged at before scope).1.regs (omega arith);
        places = λ p below. ap (λ (s : Scope). s.places p) (behind at scope);
        vars = ap (λ (s : Scope). s.vars) (behind at scope);
      };
      good = λ at same final scope good need.
          let typed : slice_get at.regs to ≡ Some given = final-type given to old new at puts.names final in
          let passed : (judges at (inst to) (judged at before scope).1).0 ≡ true =
          ap (λ (p : Bool × Scope). p.0) (judge at (judged at before scope).1) ∙ passes at (judged at before scope).1 same typed need in (
            ap (λ (p : Bool × Scope). p.0) (ran at scope) ∙ and_from (judged at before scope).0 (judges at (inst to) (judged at before scope).1).0 good passed,
            subst (gains at) (sym (behind at scope)) (gained at (judged at before scope).1 same typed need),
          );
    }
  where
    goes_on-kept : (from to : ℕ) (xs ys : List ℕ) → to ≡ from → ys ≡ xs → GoesOn from to xs ys
    goes_on-kept from to xs ys same kept = record { count = 0; to_is = omega arith; list = kept ∙ sym (append-nil xs) }

-- one that sets a place, under a test
pub adds-place : (shapes : List Shape) (needs gains : Frame → Scope → Type 0) (inst : ℕ → Inst) (test : Frame → Scope → Bool) (behind : Scope → Scope) (to : ℕ) (old new : Names) (before after : List Inst) →
    PutsPlace inst to old new before after →
    fold-Inst (List SetName) sets_step (inst to) ≡ SetsPlace to ∷ [] →
    ((at : Frame) (scope : Scope) → judges at (inst to) scope ≡ (test at scope, behind scope)) →
    ((scope : Scope) → ((p : ℕ) → p < to → (behind scope).places p ≡ scope.places p) × (((behind scope).regs ≡ scope.regs) × ((behind scope).vars ≡ scope.vars))) →
    ((at : Frame) (scope : Scope) → at.shapes ≡ shapes → to < at.places → needs at scope → test at scope ≡ true) →
    ((at : Frame) (scope : Scope) → at.shapes ≡ shapes → needs at scope → gains at (behind scope)) →
    Adds shapes needs gains old new before after
adds-place shapes needs gains inst test behind to old new before after puts sets judge kept passes gained =
    let number = puts.names.number in
    let places = puts.names.places in
    let one : settings (inst to ∷ []) ≡ SetsPlace to ∷ [] = ap (λ l. l ++ []) sets in
    let ran : (at : Frame) (scope : Scope) → judged at after scope ≡ judge_step (judged at before scope) (judges at (inst to)) =
    λ at scope. ap (λ b. judged at b scope) puts.block ∙ judged-more at before (inst to) scope in
    let then_scope : (at : Frame) (scope : Scope) → (judged at after scope).1 ≡ behind (judged at before scope).1 =
    λ at scope. ap (λ (p : Bool × Scope). p.1) (ran at scope) ∙ ap (λ (p : Bool × Scope). p.1) (judge at (judged at before scope).1) in
    record {
      begins = record { types = []; regs = puts.names.regs ∙ sym (append-nil old.regs) };
      set_regs = record {
        count = 0;
        to_is = let same : length new.regs ≡ length old.regs = ap length puts.names.regs in omega arith;
        list = ap set_regs puts.block ∙ set_regs-append before (inst to ∷ []) ∙ ap (λ ss. set_regs before ++ flat_map reg_number ss) one;
      };
      set_places = goes_on-one old.places new.places to (set_places before) (set_places after) places number
          (ap set_places puts.block ∙ set_places-append before (inst to ∷ []) ∙ ap (λ ss. set_places before ++ flat_map place_number ss) one);
      keeps = λ at same scope.
          let keep = kept (judged at before scope).1 in
          record {
            regs = λ r below. ap (λ (s : Scope). s.regs r) (then_scope at scope) ∙ ap (λ (f : ℕ → Bool). f r) keep.1.0;
            places = λ p below. ap (λ (s : Scope). s.places p) (then_scope at scope) ∙ keep.0 p (omega arith);
            vars = ap (λ (s : Scope). s.vars) (then_scope at scope) ∙ keep.1.1;
          };
      good = λ at same final scope good need.
          let room : to < at.places = let p = final.places in omega arith in
          let passed : (judges at (inst to) (judged at before scope).1).0 ≡ true =
          ap (λ (p : Bool × Scope). p.0) (judge at (judged at before scope).1) ∙ passes at (judged at before scope).1 same room need in (
            ap (λ (p : Bool × Scope). p.0) (ran at scope) ∙ and_from (judged at before scope).0 (judges at (inst to) (judged at before scope).1).0 good passed,
            subst (gains at) (sym (then_scope at scope)) (gained at (judged at before scope).1 same need),
          );
    }

-- nothing is added
pub adds-same : (shapes : List Shape) (needs gains : Frame → Scope → Type 0) (names : Names) (block : List Inst) →
    ((at : Frame) (scope : Scope) → needs at scope → gains at scope) → Adds shapes needs gains names names block block
adds-same shapes needs gains names block gained = record {
  begins = record { types = []; regs = sym (append-nil names.regs) };
  set_regs = goes_on-same (length names.regs) (set_regs block);
  set_places = goes_on-same names.places (set_places block);
  keeps = λ at same scope. record { regs = λ r below. refl; places = λ p below. refl; vars = refl };
  good = λ at same final scope good need. (good, gained at (judged at block scope).1 need);
}

-- one addition after another: what the first needs and gains is enough for the second
pub adds-trans : (shapes : List Shape) (needs middle asks gains : Frame → Scope → Type 0) (old mid new : Names) (a b c : List Inst) →
    Adds shapes needs middle old mid a b → Adds shapes asks gains mid new b c →
    ((at : Frame) (first second : Scope) → needs at first → middle at second → KeepsScope old first second → asks at second) →
    Adds shapes needs gains old new a c
adds-trans shapes needs middle asks gains old mid new a b c first second bridge =
    let one = first.set_places.to_is in
    let two = second.set_places.to_is in
    let regs = first.set_regs.to_is in
    record {
      begins = record {
        types = first.begins.types ++ second.begins.types;
        regs = second.begins.regs ∙ ap (λ rs. rs ++ second.begins.types) first.begins.regs ∙ append_assoc old.regs first.begins.types second.begins.types;
      };
      set_regs = goes_on-trans (length old.regs) (length mid.regs) (length new.regs) (set_regs a) (set_regs b) (set_regs c) first.set_regs second.set_regs;
      set_places = goes_on-trans old.places mid.places new.places (set_places a) (set_places b) (set_places c) first.set_places second.set_places;
      keeps = λ at same scope.
          let before = first.keeps at same scope in
          let after = second.keeps at same scope in
          record {
            regs = λ r below. after.regs r (omega arith) ∙ before.regs r below;
            places = λ p below. after.places p (omega arith) ∙ before.places p below;
            vars = after.vars ∙ before.vars;
          };
      good = λ at same final scope good need.
          let ready = first.good at same (final-before mid new at second.begins (omega arith) final) scope good need in
          second.good at same final scope ready.0 (bridge at (judged at a scope).1 (judged at b scope).1 need ready.1 (first.keeps at same scope));
    }

-- index registers that have a name stay readable
pub can_read-kept : (old : Names) (at : Frame) (first second : Scope) (index : List ℕ) → All (λ r. r < length old.regs) index → KeepsScope old first second → CanRead index at first → CanRead index at second
can_read-kept old at first second index named keeps can =
    λ k d below. ap (λ b. b && is_truth_as false (slice_get at.regs (get_or index k d))) (keeps.regs (get_or index k d) (named k d below)) ∙ can k d below
