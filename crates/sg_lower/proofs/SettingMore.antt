-- Additions that may set variables, one after the other.
use Rattle.std.proofs.Common.{◌≡◌, ℕ, Bool, true, List, [], ◌∷◌, ◌++◌, length, refl, sym, ap, subst, ◌∙◌, append_assoc, arith}
use Rattle.std.proofs.lemmas.Bool.{and_from}
use Rattle.std.proofs.lemmas.List.{append-nil}
use Rattle.sg_layout.specs.declared.shape.Shape.{Shape}
use Rattle.sg_ir.specs.declared.code.Inst.{Inst}
use Rattle.sg_ir.specs.declared.names.Names.{Names}
use Rattle.sg_ir.specs.WellTyped.{Frame, Scope, judge_step, judges, judged, set_regs, set_places}
use Rattle.sg_ir.specs.EmitTypes.{GoesOn, Begins, IsFinal, Adds}
use Rattle.sg_ir.proofs.Uses.{goes_on-same, goes_on-trans, final-before, judged-more, set_regs-append, set_places-append}
use Rattle.sg_lower.specs.steps.Typing.{KeepsNames, AddsSet}

-- a list that goes on, after another
pub goes_behind : (from to : ℕ) (xs ys zs : List ℕ) → GoesOn from to [] ys → zs ≡ xs ++ ys → GoesOn from to xs zs
goes_behind from to xs ys zs more is = record { count = more.count; to_is = more.to_is; list = is ∙ ap (λ (l : List ℕ). xs ++ l) more.list }

pub keeps-same : (names : Names) (scope : Scope) → KeepsNames names scope scope
keeps-same names scope = record { regs = λ r below. refl; places = λ p below. refl; vars = λ var seen. seen }

module _ (shapes : List Shape) where
  pub set_from : (needs gains : Frame → Scope → Type 0) (old new : Names) (a b : List Inst) → Adds shapes needs gains old new a b → AddsSet shapes needs gains old new a b
  set_from needs gains old new a b it = record {
    begins = it.begins;
    set_regs = it.set_regs;
    set_places = it.set_places;
    keeps = λ at same scope.
        let kept = it.keeps at same scope in
        record { regs = kept.regs; places = kept.places; vars = λ var seen. ap (λ (f : ℕ → Bool). f var) kept.vars ∙ seen };
    good = it.good;
  }

  pub set_same : (needs gains : Frame → Scope → Type 0) (names : Names) (block : List Inst) → ((at : Frame) (scope : Scope) → needs at scope → gains at scope) → AddsSet shapes needs gains names names block block
  set_same needs gains names block gained = record {
    begins = record { types = []; regs = sym (append-nil names.regs) };
    set_regs = goes_on-same (length names.regs) (set_regs block);
    set_places = goes_on-same names.places (set_places block);
    keeps = λ at same scope. keeps-same names (judged at block scope).1;
    good = λ at same final scope good need. (good, gained at (judged at block scope).1 need);
  }

  pub set_needs : (more needs gains : Frame → Scope → Type 0) (old new : Names) (a b : List Inst) → ((at : Frame) (scope : Scope) → more at scope → needs at scope) → AddsSet shapes needs gains old new a b → AddsSet shapes more gains old new a b
  set_needs more needs gains old new a b has it = record {
    begins = it.begins;
    set_regs = it.set_regs;
    set_places = it.set_places;
    keeps = it.keeps;
    good = λ at same final scope good need. it.good at same final scope good (has at (judged at a scope).1 need);
  }

  pub set_trans : (needs middle asks gains : Frame → Scope → Type 0) (old mid new : Names) (a b c : List Inst) → AddsSet shapes needs middle old mid a b → AddsSet shapes asks gains mid new b c
      → ((at : Frame) (first second : Scope) → needs at first → middle at second → KeepsNames old first second → asks at second) → AddsSet shapes needs gains old new a c
  set_trans needs middle asks gains old mid new a b c first second bridge =
      let one = first.set_places.to_is in
      let two = second.set_places.to_is in
      let regs = first.set_regs.to_is in
      record {
        begins = record {
          types = first.begins.types ++ second.begins.types;
          regs = second.begins.regs ∙ ap (λ rs. rs ++ second.begins.types) first.begins.regs ∙ append_assoc old.regs first.begins.types second.begins.types;
        };
        set_regs = goes_on-trans (length old.regs) (length mid.regs) (length new.regs) (set_regs a) (set_regs b) (set_regs c) first.set_regs second.set_regs;
        set_places = goes_on-trans old.places mid.places new.places (set_places a) (set_places b) (set_places c) first.set_places second.set_places;
        keeps = λ at same scope.
            let before = first.keeps at same scope in
            let after = second.keeps at same scope in
            record {
              regs = λ r below. after.regs r (omega arith) ∙ before.regs r below;
              places = λ p below. after.places p (omega arith) ∙ before.places p below;
              vars = λ var seen. after.vars var (before.vars var seen);
            };
        good = λ at same final scope good need.
            let ready = first.good at same (final-before mid new at second.begins (omega arith) final) scope good need in
            second.good at same final scope ready.0 (bridge at (judged at a scope).1 (judged at b scope).1 need ready.1 (first.keeps at same scope));
      }

  -- one instruction, under a test
  pub set_inst : (needs gains : Frame → Scope → Type 0) (inst : Inst) (mid new : Names) (b z : List Inst) → z ≡ b ++ inst ∷ [] → Begins mid new
      → GoesOn (length mid.regs) (length new.regs) [] (set_regs (inst ∷ [])) → GoesOn mid.places new.places [] (set_places (inst ∷ []))
      → (behind : Scope → Scope) → ((at : Frame) (scope : Scope) → (judges at inst scope).1 ≡ behind scope) → ((scope : Scope) → KeepsNames mid scope (behind scope))
      → ((at : Frame) → at.shapes ≡ shapes → IsFinal new at → (scope : Scope) → needs at scope → (judges at inst scope).0 ≡ true)
      → ((at : Frame) (scope : Scope) → needs at scope → gains at (behind scope)) → AddsSet shapes needs gains mid new b z
  set_inst needs gains inst mid new b z pushed begins regs places behind then keeps passes gained =
      let ran : (at : Frame) (scope : Scope) → judged at z scope ≡ judge_step (judged at b scope) (judges at inst) = λ at scope. ap (λ (l : List Inst). judged at l scope) pushed ∙ judged-more at b inst scope in
      let last : (at : Frame) (scope : Scope) → (judged at z scope).1 ≡ behind (judged at b scope).1 = λ at scope. ap (λ (p : Bool × Scope). p.1) (ran at scope) ∙ then at (judged at b scope).1 in
      record {
        begins = begins;
        set_regs = goes_behind (length mid.regs) (length new.regs) (set_regs b) (set_regs (inst ∷ [])) (set_regs z) regs (ap set_regs pushed ∙ set_regs-append b (inst ∷ []));
        set_places = goes_behind mid.places new.places (set_places b) (set_places (inst ∷ [])) (set_places z) places (ap set_places pushed ∙ set_places-append b (inst ∷ []));
        keeps = λ at same scope. subst (KeepsNames mid (judged at b scope).1) (sym (last at scope)) (keeps (judged at b scope).1);
        good = λ at same final scope good need. (
          ap (λ (p : Bool × Scope). p.0) (ran at scope) ∙ and_from (judged at b scope).0 (judges at inst (judged at b scope).1).0 good (passes at same final (judged at b scope).1 need),
          subst (gains at) (sym (last at scope)) (gained at (judged at b scope).1 need),
        );
      }
