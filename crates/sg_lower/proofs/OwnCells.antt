-- The own cell of an iteration: the last own write in a list of writes and in what code tells of them, and indices that name it.
use Rattle.std.proofs.Common.{◌≡◌, ℕ, ◌+◌, ◌<◌, ◌≤◌, Bool, true, false, ◌&&◌, ◌==◌, if◌then◌else◌, find, List, [], ◌∷◌, ◌++◌, map, length, reverse, drop, get_or, Option, Some, None, All, refl, sym, ap, subst, ◌∙◌, arith}
use Rattle.std.specs.Prelude.{option_map, IfSome}
use Rattle.std.proofs.lemmas.Bool.{and_parts, both_ways, eqb-true}
use Rattle.std.proofs.lemmas.List.{drop_more, drop_all, map-append, reverse-append}
use Rattle.std.proofs.lemmas.List.Elements.{All-head, All-tail, All-nil, All-cons, All-append}
use Rattle.sg_words.specs.WordLaws.{IsWord}
use Rattle.sg_layout.specs.declared.shape.Shape.{Shape}
use Rattle.sg_flat.specs.declared.effects.Way.{Way}
use Rattle.sg_flat.specs.declared.effects.Way.TheVariants as way
use Rattle.sg_flat.specs.declared.effects.Write.{Write}
use Rattle.sg_types.specs.declared.typed.TypedExpr.{TypedExpr}
use Rattle.sg_types.specs.declared.typed.Form.TheOpen.{TypedExpr-F}
use Rattle.sg_types.specs.Values.{World, Moment, is_own, own_write, value_or_own, expr_word}
use Rattle.sg_types.proofs.Uses as folds
use Rattle.sg_types.proofs.Uses.{by_exprs, value-Var}
use Rattle.sg_ir.specs.Runs as ir
use Rattle.sg_ir.specs.Runs.{CodeWrite}
use Rattle.sg_admit.specs.Rules.{is_name_of, are_names}
use Rattle.sg_lower.specs.Lowered.{code_write}
use Rattle.sg_lower.specs.steps.Basis.{Basis}
use Rattle.sg_lower.specs.steps.Fitting.{Fitted, fit_step, fitted}

module _ {X Y : Type 0} (f : X → Y) where
  reversed_map : (xs : List X) → map f (reverse xs) ≡ reverse (map f xs)
  reversed_map [] = refl
  reversed_map (x ∷ xs) =
      ap (λ (it : List X). map f it) (reverse-append (x ∷ []) xs)
      ∙ (map-append f (reverse xs) (x ∷ []) ∙ (ap (λ (it : List Y). it ++ f x ∷ []) (reversed_map xs) ∙ sym (reverse-append (f x ∷ []) (map f xs))))

  find_map : (p : Y → Bool) (xs : List X) → find p (map f xs) ≡ option_map f (find (λ x. p (f x)) xs)
  find_map p [] = refl
  find_map p (x ∷ xs) = at_head (p (f x)) (find_map p xs)
    where
      at_head : (b : Bool) → find p (map f xs) ≡ option_map f (find (λ x. p (f x)) xs) → (if b then Some (f x) else find p (map f xs)) ≡ option_map f (if b then Some x else find (λ x. p (f x)) xs)
      at_head true rest = refl
      at_head false rest = rest

-- what is found keeps what all keep
found_keeps : {X : Type 0} (P : X → Type 0) (p : X → Bool) (xs : List X) → All P xs → IfSome (find p xs) P
found_keeps P p [] all = tt
found_keeps P p (x ∷ xs) all = at_head (p x) (found_keeps P p xs (All-tail P x xs all))
  where
    at_head : (b : Bool) → IfSome (find p xs) P → IfSome (if b then Some x else find p xs) P
    at_head true rest = All-head P x xs all
    at_head false rest = rest

reversed_all : {X : Type 0} (P : X → Type 0) (xs : List X) → All P xs → All P (reverse xs)
reversed_all P [] h = h
reversed_all P (x ∷ xs) h =
    subst (All P) (sym (reverse-append (x ∷ []) xs))
    (All-append P (reverse xs) (x ∷ []) (reversed_all P xs (All-tail P x xs h)) (All-cons P x [] (All-head P x xs h) (All-nil P)))

-- the last own write, in what code tells
module _ (shapes : List Shape) where
  value_told : (found : Option Write) (value : ℕ) → ir.value_or_own (option_map (code_write shapes) found) value ≡ value_or_own found value
  value_told None value = refl
  value_told (Some write) value = refl

  pub own_told : (layout place : ℕ) (writes : List Write) (value : ℕ)
      → ir.value_or_own (ir.own_write layout place (map (code_write shapes) writes)) value ≡ value_or_own (own_write layout place writes) value
  own_told layout place writes value =
      ap (λ (found : Option CodeWrite). ir.value_or_own found value)
      (ap (find (λ (write : CodeWrite). ir.is_own write.way && ((write.layout == layout) && (write.field == place)))) (sym (reversed_map (code_write shapes) writes))
      ∙ find_map (code_write shapes) (λ (write : CodeWrite). ir.is_own write.way && ((write.layout == layout) && (write.field == place))) (reverse writes)
      ∙ ap (option_map (code_write shapes)) (same_found (reverse writes)))
      ∙ value_told (own_write layout place writes) value
    where
      same_way : (write : Write) → ir.is_own write.way ≡ is_own write.way
      same_way write = same write.way
        where
          same : (way : Way) → ir.is_own way ≡ is_own way
          same way.Own = refl
          same (way.Acc op) = refl

      same_found : (ws : List Write) → find (λ (write : Write). ir.is_own write.way && ((write.layout == layout) && (write.place == place))) ws
          ≡ find (λ (write : Write). is_own write.way && ((write.layout == layout) && (write.place == place))) ws
      same_found [] = refl
      same_found (w ∷ ws) =
          ap (λ (own : Bool). if own && ((w.layout == layout) && (w.place == place)) then Some w else find (λ (write : Write). ir.is_own write.way && ((write.layout == layout) && (write.place == place))) ws) (same_way w)
          ∙ ap (λ (rest : Option Write). if is_own w.way && ((w.layout == layout) && (w.place == place)) then Some w else rest) (same_found ws)

own_small_of : (found : Option Write) (value : ℕ) → IfSome found (λ write. IsWord write.value) → IsWord value → IsWord (value_or_own found value)
own_small_of None value kept small = small
own_small_of (Some write) value kept small = kept

pub own_small : (layout place : ℕ) (writes : List Write) (value : ℕ) → All (λ write. IsWord write.value) writes → IsWord value → IsWord (value_or_own (own_write layout place writes) value)
own_small layout place writes value all small =
    own_small_of (own_write layout place writes) value
    (found_keeps (λ (write : Write). IsWord write.value) (λ write. is_own write.way && ((write.layout == layout) && (write.place == place))) (reverse writes) (reversed_all (λ (write : Write). IsWord write.value) writes all)) small

-- ---- bare names

abbrev its_form : TypedExpr-F Fitted Fitted → Fitted
its_form expr = expr.form

module _ (basis : Basis) (world : World) (now : Moment) where
  abbrev name_in : TypedExpr → Option ℕ
  name_in expr = (fitted basis expr).0

  module _ (var : ℕ) where
    abbrev NamedHere : TypedExpr → Type 0
    NamedHere expr = is_name_of var (name_in expr) ≡ true → expr_word world now expr ≡ now.words var

    other : (expr : TypedExpr) → name_in expr ≡ None → NamedHere expr
    other expr is h = absurd (both_ways false refl (ap (is_name_of var) (sym is) ∙ h))

    abbrev first : Fitted → Option ℕ
    first p = p.0

    name_word : (expr : TypedExpr) → NamedHere expr
    name_word = by_exprs NamedHere
        (λ ty word. other _ (ap first (folds.fold-Literal (fit_step basis) its_form ty word)))
        (λ ty word. other _ (ap first (folds.fold-Constant (fit_step basis) its_form ty word)))
        (λ ty name h. value-Var world now ty name ∙ ap now.words (eqb-true name var (ap (is_name_of var) (sym (ap first (folds.fold-Var (fit_step basis) its_form ty name))) ∙ h)))
        (λ ty layout place index all. other _ (ap first (folds.fold-Read (fit_step basis) its_form ty layout place index)))
        (λ ty inner h. other _ (ap first (folds.fold-Paren (fit_step basis) its_form ty inner)))
        (λ ty op operand h. other _ (ap first (folds.fold-Un (fit_step basis) its_form ty op operand)))
        (λ ty op left right h k. other _ (ap first (folds.fold-Bin (fit_step basis) its_form ty op left right)))
        (λ ty a b shift h k l. other _ (ap first (folds.fold-Mulq (fit_step basis) its_form ty a b shift)))
        (λ ty inner h. other _ (ap first (folds.fold-Convert (fit_step basis) its_form ty inner)))
        (λ ty layout index all. other _ (ap first (folds.fold-Active (fit_step basis) its_form ty layout index)))

  names_reach : (vars var : ℕ) (names : List (Option ℕ)) → are_names vars var names ≡ true → var ≤ vars
  names_reach vars var [] h = let e = eqb-true var vars h in omega (arith, e)
  names_reach vars var (name ∷ names) h = let l = names_reach vars (var + 1) names (and_parts (is_name_of var name) (are_names vars (var + 1) names) h).1 in omega (arith, l)

  -- indices that are the loop's variables in order have the words of the coordinate
  pub named_words : (vars : ℕ) (words : List ℕ) → length words ≡ vars → ((var : ℕ) → var < vars → now.words var ≡ get_or words var 0) → (var : ℕ) (index : List TypedExpr)
      → are_names vars var (map name_in index) ≡ true → map (expr_word world now) index ≡ drop var words
  named_words vars words long here var [] h = sym (drop_all var words (let e = eqb-true var vars h in omega (arith, e, long)))
  named_words vars words long here var (expr ∷ index) h =
      let p = and_parts (is_name_of var (name_in expr)) (are_names vars (var + 1) (map name_in index)) h in
      let reach = names_reach vars (var + 1) (map name_in index) p.1 in
      let below : var < vars = omega (arith, reach) in
      let within : var < length words = omega (arith, below, long) in
      ap (λ (word : ℕ). word ∷ map (expr_word world now) index) (name_word var expr p.0 ∙ here var below)
      ∙ (ap (λ (more : List ℕ). get_or words var 0 ∷ more) (named_words vars words long here (var + 1) index p.1) ∙ sym (drop_more words var 0 within))
