-- Agreement after a variable is set, and after a write.
use Rattle.std.proofs.Common.{◌≡◌, ℕ, ◌≤◌, Bool, true, false, ◌&&◌, ◌==◌, if◌then◌else◌, find, ℤ, pos, negsuc, List, [], ◌∷◌, ◌++◌, map, reverse, Some, None, refl, sym, ap, ◌∙◌, arith}
use Rattle.std.proofs.lemmas.Bool.{and_parts, both_ways, eqb-true, ne_eqb}
use Rattle.std.proofs.lemmas.List.{map-append, reverse-append}
use Rattle.std.proofs.lemmas.List.Elements.{All-push}
use Rattle.sg_words.specs.Words.{word_of}
use Rattle.sg_words.specs.WordLaws.{IsWord}
use Rattle.sg_coord.specs.declared.coord.Coord.{Coord}
use Rattle.sg_flat.specs.declared.effects.Write.{Write}
use Rattle.sg_types.specs.Values.{Moment, is_own, own_write}
use Rattle.sg_types.specs.Iterations.{set_var, add_write}
use Rattle.sg_ir.specs.Runs as ir
use Rattle.sg_ir.specs.Runs.{CodeWrite, CodeWant, Moved}
use Rattle.sg_ir.specs.Named.{AreNamed}
use Rattle.sg_lower.specs.Lowered.{code_write, want_of}
use Rattle.sg_lower.specs.steps.Basis.{Basis, is_owned}
use Rattle.sg_lower.specs.steps.Agreeing.{told_writes, told_wants, AgreesWithIteration}

pub word_small : (z : ℤ) → IsWord (word_of z)
word_small (pos n) = omega arith
word_small (negsuc n) = omega arith

either_small : (b : Bool) (x y : ℕ) → IsWord x → IsWord y → IsWord (if b then x else y)
either_small true x y h g = h
either_small false x y h g = g

module _ (basis : Basis) (at : Coord) where
  pub agrees-set : (now : Moment) (moved : Moved) (var word : ℕ) → basis.vars ≤ var → IsWord word → AgreesWithIteration basis at now moved → AgreesWithIteration basis at (set_var var word now) (ir.set_var_word var word moved)
  agrees-set now moved var word past small agrees = record {
    vars = λ v. ap (λ (old : ℕ). if v == var then word else old) (agrees.vars v);
    writes = agrees.writes;
    wants = agrees.wants;
    named = agrees.named;
    loop = λ v below. ap (λ (same : Bool). if same then word else now.words v) (ne_eqb v var (λ e. absurd (omega (arith, e, below, past)))) ∙ agrees.loop v below;
    others = agrees.others;
    small_vars = λ v. either_small (v == var) word (now.words v) small (agrees.small_vars v);
    small_writes = agrees.small_writes;
  }

  -- a field without own writes has none after one more write
  others-kept : (write : Write) (writes : List Write) (layout place : ℕ) → (is_own write.way ≡ true → is_owned basis.owned write.layout write.place ≡ true)
      → is_owned basis.owned layout place ≡ false → own_write layout place writes ≡ None → own_write layout place (writes ++ write ∷ []) ≡ None
  others-kept write writes layout place own unowned none =
      ap (find test) (reverse-append writes (write ∷ []))
      ∙ (ap (λ (b : Bool). if b then Some write else find test (reverse writes)) (passes (is_own write.way && ((write.layout == layout) && (write.place == place))) refl) ∙ none)
    where
      test : Write → Bool
      test it = is_own it.way && ((it.layout == layout) && (it.place == place))

      passes : (b : Bool) → (is_own write.way && ((write.layout == layout) && (write.place == place))) ≡ b → (is_own write.way && ((write.layout == layout) && (write.place == place))) ≡ false
      passes false h = h
      passes true h =
          let p = and_parts (is_own write.way) ((write.layout == layout) && (write.place == place)) h in
          let q = and_parts (write.layout == layout) (write.place == place) p.1 in
          absurd (both_ways false refl
          (sym unowned
          ∙ (sym (ap (λ (l : ℕ). is_owned basis.owned l place) (eqb-true write.layout layout q.0) ∙ refl)
          ∙ (sym (ap (λ (x : ℕ). is_owned basis.owned write.layout x) (eqb-true write.place place q.1)) ∙ own p.0))))

  -- outside slices: one more write is told
  told-more : (writes : List Write) (write : Write) (told : List CodeWrite) → basis.slicing ≡ false → told ≡ told_writes basis writes → told ++ code_write basis.shapes write ∷ [] ≡ told_writes basis (writes ++ write ∷ [])
  told-more writes write told body is =
      ap (λ (it : List CodeWrite). it ++ code_write basis.shapes write ∷ []) (is ∙ ap (λ (b : Bool). if b then [] else map (code_write basis.shapes) writes) body)
      ∙ (sym (map-append (code_write basis.shapes) writes (write ∷ [])) ∙ sym (ap (λ (b : Bool). if b then [] else map (code_write basis.shapes) (writes ++ write ∷ [])) body))

  wants-same : (writes more : List Write) → basis.slicing ≡ false → told_wants basis writes ≡ told_wants basis more
  wants-same writes more body = ap (λ (b : Bool). if b then map want_of writes else []) body ∙ sym (ap (λ (b : Bool). if b then map want_of more else []) body)

  pub agrees-written : (now : Moment) (before after : Moved) (write : Write) → basis.slicing ≡ false → (is_own write.way ≡ true → is_owned basis.owned write.layout write.place ≡ true) → IsWord write.value
      → after.vars ≡ before.vars → after.writes ≡ before.writes ++ code_write basis.shapes write ∷ [] → after.wants ≡ before.wants → AreNamed basis.shapes after.accesses
      → AgreesWithIteration basis at now before → AgreesWithIteration basis at (add_write write now) after
  agrees-written now before after write body own small vars writes wants named agrees = record {
    vars = λ var. ap (λ (vars : ℕ → ℕ). vars var) vars ∙ agrees.vars var;
    writes = writes ∙ told-more now.writes write before.writes body agrees.writes;
    wants = wants ∙ (agrees.wants ∙ wants-same now.writes (now.writes ++ write ∷ []) body);
    named = named;
    loop = agrees.loop;
    others = λ layout place unowned. others-kept write now.writes layout place own unowned (agrees.others layout place unowned);
    small_vars = agrees.small_vars;
    small_writes = λ body. All-push (λ write. IsWord write.value) now.writes write (agrees.small_writes body) small;
  }

  -- in a slice: one more want
  wants-more : (writes : List Write) (write : Write) (told : List CodeWant) → basis.slicing ≡ true → told ≡ told_wants basis writes → told ++ want_of write ∷ [] ≡ told_wants basis (writes ++ write ∷ [])
  wants-more writes write told slice is =
      ap (λ (it : List CodeWant). it ++ want_of write ∷ []) (is ∙ ap (λ (b : Bool). if b then map want_of writes else []) slice)
      ∙ (sym (map-append want_of writes (write ∷ [])) ∙ sym (ap (λ (b : Bool). if b then map want_of (writes ++ write ∷ []) else []) slice))

  writes-same : (writes more : List Write) → basis.slicing ≡ true → told_writes basis writes ≡ told_writes basis more
  writes-same writes more slice = ap (λ (b : Bool). if b then [] else map (code_write basis.shapes) writes) slice ∙ sym (ap (λ (b : Bool). if b then [] else map (code_write basis.shapes) more) slice)

  pub agrees-wanted : (now : Moment) (before after : Moved) (write : Write) → basis.slicing ≡ true → (is_own write.way ≡ true → is_owned basis.owned write.layout write.place ≡ true)
      → after.vars ≡ before.vars → after.writes ≡ before.writes → after.wants ≡ before.wants ++ want_of write ∷ [] → AreNamed basis.shapes after.accesses
      → AgreesWithIteration basis at now before → AgreesWithIteration basis at (add_write write now) after
  agrees-wanted now before after write slice own vars writes wants named agrees = record {
    vars = λ var. ap (λ (vars : ℕ → ℕ). vars var) vars ∙ agrees.vars var;
    writes = writes ∙ (agrees.writes ∙ writes-same now.writes (now.writes ++ write ∷ []) slice);
    wants = wants ∙ wants-more now.writes write before.wants slice agrees.wants;
    named = named;
    loop = agrees.loop;
    others = λ layout place unowned. others-kept write now.writes layout place own unowned (agrees.others layout place unowned);
    small_vars = agrees.small_vars;
    small_writes = λ body. absurd (both_ways false refl (sym body ∙ slice));
  }
