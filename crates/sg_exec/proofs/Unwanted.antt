-- What wants nothing in a layout.
use Rattle.std.proofs.Common.{◌≡◌, ℕ, suc, ◌+◌, ◌<◌, ◌≤◌, drop-cons, add-one, Bool, true, false, ℤ, List, [], ◌∷◌, map, length, drop, get_or, fold, refl, sym, ap, ◌∙◌, subst}
use Rattle.std.specs.Prelude.{◌==◌, if◌then◌else◌}
use Rattle.std.proofs.lemmas.List.{drop_all}
use Rattle.sg_words.specs.Words.{word_of}
use Rattle.sg_flat.specs.Domain.{numbers}
use Rattle.sg_ir.specs.declared.code.Inst.{Inst}
use Rattle.sg_ir.specs.declared.code.Inst.TheVariants as v
use Rattle.sg_ir.specs.Runs.{Seen, Moved, InstAction, actions_in_turn, does, runs, set_var_word}
use Rattle.sg_ir.proofs.Uses.{does-If, does-For}
use Rattle.sg_exec.specs.steps.Turning.{wants_for, InstWantsNone, BlockWantsNone}

in_branch : (layout : ℕ) (test : Bool) (yes no : List InstAction) (now : Moved) → wants_for layout (actions_in_turn yes now) ≡ wants_for layout now → wants_for layout (actions_in_turn no now) ≡ wants_for layout now
    → wants_for layout (actions_in_turn (if test then no else yes) now) ≡ wants_for layout now
in_branch layout true first second now is_first is_second = is_second
in_branch layout false first second now is_first is_second = is_first

pub if_none : (layout : ℕ) (inst : Inst) (cond : ℕ) (block otherwise : List Inst) → inst ≡ v.If cond block otherwise → BlockWantsNone layout block → BlockWantsNone layout otherwise → InstWantsNone layout inst
if_none layout inst cond block otherwise is none none' = λ seen now.
    ap (λ (it : Inst). wants_for layout (does seen it now)) is
    ∙ ap (wants_for layout) (does-If seen cond block otherwise now)
    ∙ in_branch layout (now.regs cond == 0) (map (does seen) block) (map (does seen) otherwise) now (none seen now) (none' seen now)

turns_none : (layout : ℕ) (seen : Seen) (var : ℕ) (body : List Inst) (turns : List ℤ) (now : Moved) → BlockWantsNone layout body
    → wants_for layout (fold (λ (reached : Moved) (turn : ℤ). actions_in_turn (map (does seen) body) (set_var_word var (word_of turn) reached)) now turns) ≡ wants_for layout now
turns_none layout seen var body [] now none = refl
turns_none layout seen var body (turn ∷ turns) now none =
    turns_none layout seen var body turns (actions_in_turn (map (does seen) body) (set_var_word var (word_of turn) now)) none ∙ none seen (set_var_word var (word_of turn) now)

pub for_none : (layout : ℕ) (inst : Inst) (var : ℕ) (lo hi : ℤ) (body : List Inst) → inst ≡ v.For var lo hi body → BlockWantsNone layout body → InstWantsNone layout inst
for_none layout inst var lo hi body is none = λ seen now.
    ap (λ (it : Inst). wants_for layout (does seen it now)) is
    ∙ ap (wants_for layout) (does-For seen var lo hi body now)
    ∙ turns_none layout seen var body (numbers lo hi) now none

-- one instruction more, from the end
pub block_next : (layout : ℕ) (block : List Inst) (i : ℕ) (inst : Inst) → i < length block → inst ≡ get_or block i inst → InstWantsNone layout inst → BlockWantsNone layout (drop (i + 1) block) → BlockWantsNone layout (drop i block)
block_next layout block i inst below is none later = λ seen now.
    ap (λ (insts : List Inst). wants_for layout (runs seen insts now)) split ∙ later seen (does seen inst now) ∙ none seen now
  where
    split : drop i block ≡ inst ∷ drop (i + 1) block
    split = rw add-one (drop-cons block i inst below ∙ ap (λ (x : Inst). x ∷ drop (suc i) block) (sym is))

pub block_end : (layout : ℕ) (block : List Inst) (i : ℕ) → length block ≤ i → BlockWantsNone layout (drop i block)
block_end layout block i past = subst (λ (insts : List Inst). BlockWantsNone layout insts) (sym (drop_all i block past)) (λ seen now. refl)
