use Rattle.std.proofs.Common.{ℕ, Bool, List, [], ◌∷◌, ◌++◌, ◌||◌, ◌==◌, not, map, sym, ap, ◌∙◌, arith}
use Rattle.std.specs.List.{list_any, range_with_len}
use Rattle.std.proofs.lemmas.List.FromFn.{map-range_with_len_more}
use Rattle.sg_words.specs.Spread.{bears_mark}
use Rattle.sg_admit.proofs.admission.Known.clean_vars.Goals as goal

pub loop-var-preserved : goal.loop-var-preserved
loop-var-preserved c =
    let known = c.args.self.now in
    let var = c.loop-var.var in
    let f = λ (var : ℕ). not (bears_mark known.marks.dirty var) || list_any (λ (it : ℕ). it == var) known.loops in
    let before = map f (range_with_len 0 var) in
    c.in_ok-push.ensures.ok
    ∙ (ap (λ (clean : List Bool). clean ++ c.is_clean_var.result ∷ []) c.loop-var.invariant
    ∙ (ap (λ (clean : Bool). before ++ clean ∷ []) (c.is_clean_var.ensures ∙ ap (λ (looped : Bool). not (bears_mark known.marks.dirty var) || looped) (c.in_ok-looped.ensures var))
    ∙ sym (map-range_with_len_more f 0 var var (omega arith))))
