-- How agreement goes through emitted instructions, and the values of expressions.
use Rattle.std.proofs.Common.{◌≡◌, ℕ, ◌<◌, List, [], ◌∷◌, ◌++◌, map, length, All, refl, sym, ap, subst, ◌∙◌, arith}
use Rattle.std.proofs.lemmas.List.{map-append}
use Rattle.std.proofs.lemmas.List.Elements.{All-nil, All-head, All-tail, All-push, All-weaker}
use Rattle.sg_words.specs.WordLaws.{IsWord}
use Rattle.sg_coord.specs.declared.coord.Coord.{Coord}
use Rattle.sg_types.specs.declared.typed.TypedExpr.{TypedExpr}
use Rattle.sg_types.specs.Values.{World, Moment, expr_word}
use Rattle.sg_ir.specs.declared.code.Inst.{Inst}
use Rattle.sg_ir.specs.declared.names.Names.{Names}
use Rattle.sg_ir.specs.Runs.{Seen, Moved, runs}
use Rattle.sg_ir.specs.Named.{AreNamed}
use Rattle.sg_ir.specs.Emits.{Keeps, Extends, Computes}
use Rattle.sg_ir.proofs.Uses as emitted
use Rattle.sg_lower.specs.steps.Basis.{Basis}
use Rattle.sg_lower.specs.steps.Agreeing.{IsWorld, IsPoint, seen_of, AgreesWithIteration, ShowsAll, Values, AllValues}

-- ---- one extension after another

pub extends-same : (basis : Basis) (names : Names) (block : List Inst) → Extends basis.shapes names names block block
extends-same basis names block = emitted.extends-same basis.shapes names block

pub extends-trans : (basis : Basis) (old mid new : Names) (a b c : List Inst) → Extends basis.shapes old mid a b → Extends basis.shapes mid new b c → Extends basis.shapes old new a c
extends-trans basis old mid new a b c first second = emitted.extends-trans basis.shapes old mid new a b c first second

pub named-grows : (basis : Basis) (old new : Names) (a b : List Inst) (regs : List ℕ) → Extends basis.shapes old new a b → All (λ r. r < length old.regs) regs → All (λ r. r < length new.regs) regs
named-grows basis old new a b regs extends named =
    let grows = extends.grows in
    All-weaker (λ r. r < length old.regs) (λ r. r < length new.regs) (λ r below. omega arith) regs named

-- the words of registers that have a name are kept
pub words_kept : (r_end p_end : ℕ) (before after : Moved) (regs : List ℕ) → All (λ r. r < r_end) regs → Keeps r_end p_end before after → map after.regs regs ≡ map before.regs regs
words_kept r_end p_end before after [] named keeps = refl
words_kept r_end p_end before after (r ∷ regs) named keeps =
    ap (λ (word : ℕ). word ∷ map after.regs regs) (keeps.regs r (All-head (λ r. r < r_end) r regs named))
    ∙ ap (λ (words : List ℕ). before.regs r ∷ words) (words_kept r_end p_end before after regs (All-tail (λ r. r < r_end) r regs named) keeps)

-- ---- agreement

pub agrees-kept : (basis : Basis) (at : Coord) (now : Moment) (r_end p_end : ℕ) (before after : Moved) → Keeps r_end p_end before after → AreNamed basis.shapes after.accesses → AgreesWithIteration basis at now before → AgreesWithIteration basis at now after
agrees-kept basis at now r_end p_end before after keeps named agrees = record {
  vars = λ var. ap (λ (vars : ℕ → ℕ). vars var) keeps.vars ∙ agrees.vars var;
  writes = keeps.writes ∙ agrees.writes;
  wants = keeps.wants ∙ agrees.wants;
  named = named;
  loop = agrees.loop;
  others = agrees.others;
  small_vars = agrees.small_vars;
  small_writes = agrees.small_writes;
}

-- ---- values of several expressions

module _ (basis : Basis) where
  pub values-none : (names : Names) (block : List Inst) → AllValues basis [] [] names names block block
  values-none names block = record {
    extends = extends-same basis names block;
    named = All-nil (λ r. r < length names.regs);
    values = λ world is at point now start agrees. record { agrees = agrees; hold = refl; small = All-nil IsWord };
  }

  pub values-more : (exprs : List TypedExpr) (regs : List ℕ) (expr : TypedExpr) (to : ℕ) (old mid new : Names) (a b c : List Inst)
      → AllValues basis exprs regs old mid a b → Values basis expr to mid new b c → AllValues basis (exprs ++ expr ∷ []) (regs ++ to ∷ []) old new a c
  values-more exprs regs expr to old mid new a b c all one = record {
    extends = extends-trans basis old mid new a b c all.extends one.extends;
    named = All-push (λ r. r < length new.regs) regs to (named-grows basis mid new b c regs one.extends all.named) one.named;
    values = λ world is at point now start agrees.
        let seen = seen_of world at in
        let first = all.values world is at point now start agrees in
        let last = one.value world is at point now start first.agrees in
        let kept = words_kept (length mid.regs) mid.places (runs seen b start) (runs seen c start) regs all.named (one.extends.keeps seen is.shapes_are start) in
        record {
          agrees = last.agrees;
          hold =
              map-append (runs seen c start).regs regs (to ∷ [])
              ∙ (ap (λ (words : List ℕ). words ++ (runs seen c start).regs to ∷ []) (kept ∙ first.hold)
              ∙ (ap (λ (word : ℕ). map (expr_word world now) exprs ++ word ∷ []) last.holds ∙ sym (map-append (expr_word world now) exprs (expr ∷ []))));
          small = subst (All IsWord) (sym (map-append (expr_word world now) exprs (expr ∷ []))) (All-push IsWord (map (expr_word world now) exprs) (expr_word world now expr) first.small last.small);
        };
  }

  -- one instruction on the words of parts
  pub values-computed : (exprs : List TypedExpr) (regs : List ℕ) (expr : TypedExpr) (to : ℕ) (old mid new : Names) (a b c : List Inst) (word : Seen → Moved → ℕ)
      → AllValues basis exprs regs old mid a b → Computes basis.shapes word to mid new b c
      → ((world : World) → IsWorld basis.shapes world → (at : Coord) → IsPoint basis.vars at → (now : Moment) (moved : Moved) → ShowsAll basis at now moved regs (map (expr_word world now) exprs)
      → (word (seen_of world at) moved ≡ expr_word world now expr) × IsWord (expr_word world now expr))
      → Values basis expr to old new a c
  values-computed exprs regs expr to old mid new a b c word all computes means = record {
    extends = extends-trans basis old mid new a b c all.extends computes.extends;
    named = computes.named;
    value = λ world is at point now start agrees.
        let seen = seen_of world at in
        let shows = all.values world is at point now start agrees in
        let is_word = means world is at point now (runs seen b start) shows in
        record {
          agrees = agrees-kept basis at now (length mid.regs) mid.places (runs seen b start) (runs seen c start) (computes.extends.keeps seen is.shapes_are start)
              (subst (AreNamed basis.shapes) (sym (computes.quiet seen is.shapes_are start)) shows.agrees.named) shows.agrees;
          holds = computes.value seen is.shapes_are start ∙ is_word.0;
          small = is_word.1;
        };
  }

  -- another expression with the same words
  pub values-same : (expr inner : TypedExpr) (to : ℕ) (old new : Names) (a b : List Inst) → ((world : World) (now : Moment) → expr_word world now expr ≡ expr_word world now inner) → Values basis inner to old new a b → Values basis expr to old new a b
  values-same expr inner to old new a b same values = record {
    extends = values.extends;
    named = values.named;
    value = λ world is at point now start agrees.
        let shows = values.value world is at point now start agrees in
        record { agrees = shows.agrees; holds = shows.holds ∙ sym (same world now); small = subst IsWord (sym (same world now)) shows.small };
  }
