-- Additions to judgements, one after the other.
use Rattle.std.proofs.Common.{◌≡◌, ℕ, ◌<◌, Bool, true, ◌&&◌, List, [], ◌∷◌, length, sym, ap, ◌∙◌}
use Rattle.std.specs.Prelude.{slice_get, Some}
use Rattle.std.proofs.lemmas.Bool.{and_from}
use Rattle.sg_words.specs.declared.operators.Ty.{Ty}
use Rattle.sg_layout.specs.declared.shape.Shape.{Shape}
use Rattle.sg_types.specs.WellTyped.{Surroundings}
use Rattle.sg_ir.specs.declared.code.Inst.{Inst, fold-Inst}
use Rattle.sg_ir.specs.declared.names.Names.{Names}
use Rattle.sg_ir.specs.WellTyped as ir
use Rattle.sg_ir.specs.WellTyped.{Frame, Scope, with_reg, is_truth, is_truth_as, reads, judges, judged, sets_step}
use Rattle.sg_ir.specs.Emits.{PutsReg}
use Rattle.sg_ir.specs.EmitTypes.{KeepsScope, Adds}
use Rattle.sg_ir.proofs.Uses.{put-same, adds-reg, adds-trans}
use Rattle.sg_lower.specs.steps.Typing.{Ready, HoldsWordOf}
use Rattle.sg_lower.proofs.TypeWords.{of_itself}

pub ready-kept : (setting : Surroundings) (names : Names) (at : Frame) (first second : Scope) → Ready setting at first → KeepsScope names first second → Ready setting at second
ready-kept setting names at first second ready keeps = (ready.0, λ var seen. ap (λ (f : ℕ → Bool). f var) keeps.vars ∙ ready.1 var seen)

pub word-kept : (names : Names) (to : ℕ) (given : Ty) (at : Frame) (first second : Scope) → to < length names.regs → HoldsWordOf to given at first → KeepsScope names first second → HoldsWordOf to given at second
word-kept names to given at first second named has keeps = ap (λ (b : Bool). b && is_truth_as (is_truth given) (slice_get at.regs to)) (keeps.regs to named) ∙ has

-- a register that was just set, of a type like the given one
pub new_word : (to : ℕ) (given wanted : Ty) (at : Frame) (scope : Scope) → is_truth given ≡ is_truth wanted → slice_get at.regs to ≡ Some given → HoldsWordOf to wanted at (with_reg to scope)
new_word to given wanted at scope same there =
    and_from ((with_reg to scope).regs to) (is_truth_as (is_truth wanted) (slice_get at.regs to)) (put-same to true scope.regs)
    (ap (λ (truth : Bool). is_truth_as truth (slice_get at.regs to)) (sym same) ∙ (ap (is_truth_as (is_truth given)) there ∙ of_itself given))

module _ (shapes : List Shape) where
  -- what holds before and is kept holds after it too
  pub adds-keeping : (needs gains kept : Frame → Scope → Type 0) (old new : Names) (a b : List Inst) → Adds shapes needs gains old new a b
      → ((at : Frame) (first second : Scope) → kept at first → KeepsScope old first second → kept at second)
      → Adds shapes (λ at scope. needs at scope × kept at scope) (λ at scope. gains at scope × kept at scope) old new a b
  adds-keeping needs gains kept old new a b it stays = record {
    begins = it.begins;
    set_regs = it.set_regs;
    set_places = it.set_places;
    keeps = it.keeps;
    good = λ at same final scope good need.
        let r = it.good at same final scope good need.0 in
        (r.0, (r.1, stays at (judged at a scope).1 (judged at b scope).1 need.1 (it.keeps at same scope)));
  }

  -- more is known where the layouts are these
  pub adds-gains : (needs gains more : Frame → Scope → Type 0) (old new : Names) (a b : List Inst) → ((at : Frame) (scope : Scope) → at.shapes ≡ shapes → gains at scope → more at scope)
      → Adds shapes needs gains old new a b → Adds shapes needs more old new a b
  adds-gains needs gains more old new a b known it = record {
    begins = it.begins;
    set_regs = it.set_regs;
    set_places = it.set_places;
    keeps = it.keeps;
    good = λ at same final scope good need. let r = it.good at same final scope good need in (r.0, known at (judged at b scope).1 same r.1);
  }

  -- two additions that need the same, where what the first gains is kept
  pub adds-both : (setting : Surroundings) (one two : Frame → Scope → Type 0) (old mid new : Names) (a b c : List Inst) → Adds shapes (Ready setting) one old mid a b → Adds shapes (Ready setting) two mid new b c
      → ((at : Frame) (first second : Scope) → one at first → KeepsScope mid first second → one at second) → Adds shapes (Ready setting) (λ at scope. two at scope × one at scope) old new a c
  adds-both setting one two old mid new a b c first second stays =
      adds-trans shapes (Ready setting) one (λ at scope. Ready setting at scope × one at scope) (λ at scope. two at scope × one at scope) old mid new a b c first
      (adds-keeping (Ready setting) two one mid new b c second stays) (λ at s t ready got keeps. (ready-kept setting old at s t ready keeps, got))

  -- an instruction after what it takes
  pub adds-last : (setting : Surroundings) (takes : Frame → Scope → Type 0) (given wanted : Ty) (inst : ℕ → Inst) (test : Frame → Scope → Bool) (to : ℕ) (old mid new : Names) (a b c : List Inst)
      → Adds shapes (Ready setting) takes old mid a b → PutsReg given inst to mid new b c → fold-Inst (List ir.SetName) sets_step (inst to) ≡ ir.SetsReg to ∷ []
      → ((at : Frame) (scope : Scope) → judges at (inst to) scope ≡ (test at scope, with_reg to scope))
      → ((at : Frame) (scope : Scope) → at.shapes ≡ shapes → slice_get at.regs to ≡ Some given → takes at scope → test at scope ≡ true)
      → is_truth given ≡ is_truth wanted → Adds shapes (Ready setting) (HoldsWordOf to wanted) old new a c
  adds-last setting takes given wanted inst test to old mid new a b c before puts sets judge passes same =
      adds-trans shapes (Ready setting) takes takes (HoldsWordOf to wanted) old mid new a b c before
      (adds-reg shapes takes (HoldsWordOf to wanted) given inst test to mid new b c puts sets judge passes (λ at scope is there need. new_word to given wanted at scope same there))
      (λ at s t ready got keeps. got)
