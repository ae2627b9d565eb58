-- What stays between the moment of a kernel's iteration and that of its slice, and the single steps that keep it.
use Rattle.std.proofs.Common.{◌≡◌, ℕ, Bool, true, false, not, ◌&&◌, ◌==◌, cond, if◌then◌else◌, List, [], ◌∷◌, ◌++◌, map, reverse, Option, Some, None, refl, sym, ap, ◌∙◌}
use Rattle.std.specs.List.{list_all, find, filter, AllByRecursion}
use Rattle.std.proofs.lemmas.Bool.{and_parts, and_from, both_ways, eqb-true, ne_eqb, not-true, false_from_ne_true}
use Rattle.std.proofs.lemmas.List.{map-append, reverse-append}
use Rattle.std.proofs.lemmas.List.Folds.{list_all-append}
use Rattle.std.proofs.lemmas.List.Elements.{filter-append}
use Rattle.sg_words.specs.Words.{flag, applied, applied_un, mulq_of}
use Rattle.sg_flat.specs.Domain.{is_active}
use Rattle.sg_coord.specs.declared.coord.Coord.{Coord}
use Rattle.sg_flat.specs.declared.effects.Write.{Write}
use Rattle.sg_flat.specs.State as flat
use Rattle.sg_types.specs.declared.typed.TypedExpr.{TypedExpr}
use Rattle.sg_types.specs.Values.{World, Moment, is_own, own_write, value_or_own, read_word, coord_of, expr_word}
use Rattle.sg_types.specs.Iterations.{set_var, add_write}
use Rattle.sg_types.proofs.Uses.{value-Literal, value-Constant, value-Var, value-Read, value-Paren, value-Un, value-Bin, value-Mulq, value-Convert, value-Active}
use Rattle.sg_admit.specs.Clean.{Unclean, is_clean}
use Rattle.sg_admit.specs.Slices.{may_activate}
use Rattle.sg_admit.specs.Laws.{without_value}
use Rattle.sg_admit.proofs.CleanWords.{clean-Var, clean-Read, clean-Paren, clean-Un, clean-Bin, clean-Mulq, clean-Convert, clean-Active}
use Rattle.sg_types.proofs.Uses.{by_exprs}

reverse-cons : {X : Type 0} (x : X) (xs : List X) → reverse (x ∷ xs) ≡ reverse xs ++ x ∷ []
reverse-cons x xs = reverse-append (x ∷ []) xs

list_all-reverse : {X : Type 0} (p : X → Bool) (xs : List X) → list_all p xs ≡ true → list_all p (reverse xs) ≡ true
list_all-reverse p [] h = refl
list_all-reverse p (x ∷ xs) h =
    let parts = and_parts (p x) (list_all p xs) h in
    rw (reverse-cons x xs) (list_all-append p (reverse xs) (x ∷ []) ∙ and_from (list_all p (reverse xs)) (p x && true) (list_all-reverse p xs parts.1) (and_from (p x) true parts.0 refl))

module _ (walked : Option ℕ) (unclean : Unclean) where
  abbrev pub activates : Write → Bool
  activates write = may_activate walked write.layout write.way

  abbrev pub is_unclean_write : Write → Bool
  is_unclean_write write = unclean.fields write.layout write.place

  -- the kernel's moment and the slice's: the same words of all variables that aren't dirty, the same writes that may activate except for
  -- their values, and writes only of fields that the kernel writes
  pub record Agree (now beside : Moment) : Type 0 where
    pub words : (var : ℕ) → unclean.vars var ≡ false → now.words var ≡ beside.words var
    pub writes : beside.writes ≡ map without_value (filter activates now.writes)
    pub only : list_all is_unclean_write now.writes ≡ true

  -- no own write of a field that isn't written
  abbrev is_own_at : ℕ → ℕ → Write → Bool
  is_own_at layout place write = is_own write.way && ((write.layout == layout) && (write.place == place))

  not_here : (layout place : ℕ) → unclean.fields layout place ≡ false → (write : Write) → is_unclean_write write ≡ true → is_own_at layout place write ≡ false
  not_here layout place h write w =
      false_from_ne_true (is_own_at layout place write)
      (λ e.
      let p = and_parts (is_own write.way) ((write.layout == layout) && (write.place == place)) e in
      let q = and_parts (write.layout == layout) (write.place == place) p.1 in
      both_ways (unclean.fields layout place) h (ap (λ (l : ℕ). unclean.fields l place) (sym (eqb-true write.layout layout q.0)) ∙ (ap (λ (n : ℕ). unclean.fields write.layout n) (sym (eqb-true write.place place q.1)) ∙ w)))

  none_found : (layout place : ℕ) → unclean.fields layout place ≡ false → (writes : List Write) → list_all is_unclean_write writes ≡ true → find (is_own_at layout place) writes ≡ None
  none_found layout place h [] all = refl
  none_found layout place h (write ∷ writes) all =
      let p = and_parts (is_unclean_write write) (list_all is_unclean_write writes) all in
      ap (λ (here : Bool). cond here (Some write) (find (is_own_at layout place) writes)) (not_here layout place h write p.0) ∙ none_found layout place h writes p.1

  none_own : (layout place : ℕ) → unclean.fields layout place ≡ false → (writes : List Write) → list_all is_unclean_write writes ≡ true → own_write layout place writes ≡ None
  none_own layout place h writes all = none_found layout place h (reverse writes) (list_all-reverse is_unclean_write writes all)

  beside_only : (writes : List Write) → list_all is_unclean_write writes ≡ true → list_all is_unclean_write (map without_value (filter activates writes)) ≡ true
  beside_only [] h = refl
  beside_only (write ∷ writes) h =
      let p = and_parts (is_unclean_write write) (list_all is_unclean_write writes) h in
      at_head (activates write) p.0 (beside_only writes p.1)
    where
      at_head : (here : Bool) → is_unclean_write write ≡ true → list_all is_unclean_write (map without_value (filter activates writes)) ≡ true
          → list_all is_unclean_write (map without_value (cond here (write ∷ filter activates writes) (filter activates writes))) ≡ true
      at_head true w more = and_from (is_unclean_write write) (list_all is_unclean_write (map without_value (filter activates writes))) w more
      at_head false w more = more

  module _ (world : World) (now beside : Moment) (agree : Agree now beside) where
    abbrev Same : TypedExpr → Type 0
    Same expr = is_clean unclean expr ≡ true → expr_word world now expr ≡ expr_word world beside expr

    same_read : (layout place : ℕ) (at : Coord) → unclean.fields layout place ≡ false → read_word world now layout place at ≡ read_word world beside layout place at
    same_read layout place at h =
        ap (λ (own : Option Write). value_or_own own (flat.value_of world.shapes world.state layout place at)) (none_own layout place h now.writes agree.only)
        ∙ sym (ap (λ (own : Option Write). value_or_own own (flat.value_of world.shapes world.state layout place at))
        (ap (own_write layout place) agree.writes ∙ none_own layout place h (map without_value (filter activates now.writes)) (beside_only now.writes agree.only)))

    same_words : (exprs : List TypedExpr) → AllByRecursion Same exprs → list_all (is_clean unclean) exprs ≡ true → map (expr_word world now) exprs ≡ map (expr_word world beside) exprs
    same_words [] all h = refl
    same_words (expr ∷ exprs) all h =
        let p = and_parts (is_clean unclean expr) (list_all (is_clean unclean) exprs) h in
        ap (λ (word : ℕ). word ∷ map (expr_word world now) exprs) (all.0 p.0) ∙ ap (λ (words : List ℕ). expr_word world beside expr ∷ words) (same_words exprs all.1 p.1)

    -- a clean expression has the same word at both moments
    pub same_word : (expr : TypedExpr) → Same expr
    same_word = by_exprs Same
        (λ ty word h. value-Literal world now ty word ∙ sym (value-Literal world beside ty word))
        (λ ty word h. value-Constant world now ty word ∙ sym (value-Constant world beside ty word))
        (λ ty var h. value-Var world now ty var ∙ (agree.words var (not-true (unclean.vars var) (sym (clean-Var unclean ty var) ∙ h)) ∙ sym (value-Var world beside ty var)))
        (λ ty layout place index all h.
        let p = and_parts (not (unclean.fields layout place)) (list_all (is_clean unclean) index) (sym (clean-Read unclean ty layout place index) ∙ h) in
        value-Read world now ty layout place index
        ∙ (same_read layout place (coord_of (map (expr_word world now) index)) (not-true (unclean.fields layout place) p.0)
        ∙ (ap (λ (words : List ℕ). read_word world beside layout place (coord_of words)) (same_words index all p.1) ∙ sym (value-Read world beside ty layout place index))))
        (λ ty inner hi h. value-Paren world now ty inner ∙ (hi (sym (clean-Paren unclean ty inner) ∙ h) ∙ sym (value-Paren world beside ty inner)))
        (λ ty op operand hi h. value-Un world now ty op operand ∙ (ap (applied_un op) (hi (sym (clean-Un unclean ty op operand) ∙ h)) ∙ sym (value-Un world beside ty op operand)))
        (λ ty op left right hl hr h.
        let p = and_parts (is_clean unclean left) (is_clean unclean right) (sym (clean-Bin unclean ty op left right) ∙ h) in
        value-Bin world now ty op left right
        ∙ (ap (λ (word : ℕ). applied op left.ty word (expr_word world now right)) (hl p.0)
        ∙ (ap (λ (word : ℕ). applied op left.ty (expr_word world beside left) word) (hr p.1) ∙ sym (value-Bin world beside ty op left right))))
        (λ ty a b shift ha hb hs h.
        let p = and_parts (is_clean unclean a) (is_clean unclean b && is_clean unclean shift) (sym (clean-Mulq unclean ty a b shift) ∙ h) in
        let q = and_parts (is_clean unclean b) (is_clean unclean shift) p.1 in
        value-Mulq world now ty a b shift
        ∙ (ap (λ (word : ℕ). mulq_of word (expr_word world now b) (expr_word world now shift)) (ha p.0)
        ∙ (ap (λ (word : ℕ). mulq_of (expr_word world beside a) word (expr_word world now shift)) (hb q.0)
        ∙ (ap (λ (word : ℕ). mulq_of (expr_word world beside a) (expr_word world beside b) word) (hs q.1) ∙ sym (value-Mulq world beside ty a b shift)))))
        (λ ty inner hi h. value-Convert world now ty inner ∙ (hi (sym (clean-Convert unclean ty inner) ∙ h) ∙ sym (value-Convert world beside ty inner)))
        (λ ty layout index all h.
        value-Active world now ty layout index
        ∙ (ap (λ (words : List ℕ). flag (is_active world.state layout (coord_of words))) (same_words index all (sym (clean-Active unclean ty layout index) ∙ h))
        ∙ sym (value-Active world beside ty layout index)))

    pub same_all : (exprs : List TypedExpr) → list_all (is_clean unclean) exprs ≡ true → map (expr_word world now) exprs ≡ map (expr_word world beside) exprs
    same_all exprs h = same_words exprs (all_exprs' exprs) h
      where
        all_exprs' : (exprs : List TypedExpr) → AllByRecursion Same exprs
        all_exprs' [] = tt
        all_exprs' (expr ∷ exprs) = (same_word expr, all_exprs' exprs)

  module _ (now beside : Moment) (agree : Agree now beside) where
    -- a variable gets the same word at both, or a dirty one gets a word at the first alone
    pub set_both : (var word other : ℕ) → word ≡ other → Agree (set_var var word now) (set_var var other beside)
    set_both var word other e = record {
      words = λ it h. ap (λ (w : ℕ). if it == var then w else now.words it) e ∙ ap (λ (w : ℕ). if it == var then other else w) (agree.words it h);
      writes = agree.writes;
      only = agree.only;
    }

    pub set_one : (var word : ℕ) → unclean.vars var ≡ true → Agree (set_var var word now) beside
    set_one var word dirty = record {
      words = λ it h. ap (λ (same : Bool). if same then word else now.words it) (ne_eqb it var (λ e. both_ways (unclean.vars var) (ap unclean.vars (sym e) ∙ h) dirty)) ∙ agree.words it h;
      writes = agree.writes;
      only = agree.only;
    }

    only_more : (write : Write) → is_unclean_write write ≡ true → list_all is_unclean_write (now.writes ++ write ∷ []) ≡ true
    only_more write h = list_all-append is_unclean_write now.writes (write ∷ []) ∙ and_from (list_all is_unclean_write now.writes) (is_unclean_write write && true) agree.only (and_from (is_unclean_write write) true h refl)

    filter_more : (write : Write) (here : Bool) → activates write ≡ here → filter activates (now.writes ++ write ∷ []) ≡ filter activates now.writes ++ cond here (write ∷ []) []
    filter_more write here e = filter-append activates now.writes (write ∷ []) ∙ ap (λ (b : Bool). filter activates now.writes ++ cond b (write ∷ []) []) e

    -- both write, except for the value, or the first alone makes a write that may not activate
    pub write_both : (write : Write) → is_unclean_write write ≡ true → activates write ≡ true → Agree (add_write write now) (add_write (without_value write) beside)
    write_both write w h = record {
      words = agree.words;
      writes = ap (λ (writes : List Write). writes ++ without_value write ∷ []) agree.writes
          ∙ (sym (map-append without_value (filter activates now.writes) (write ∷ [])) ∙ ap (map without_value) (sym (filter_more write true h)));
      only = only_more write w;
    }

    pub write_one : (write : Write) → is_unclean_write write ≡ true → activates write ≡ false → Agree (add_write write now) beside
    write_one write w h = record {
      words = agree.words;
      writes = agree.writes ∙ (ap (map without_value) (sym (append_nil (filter activates now.writes)) ∙ sym (filter_more write false h)));
      only = only_more write w;
    }
      where
        append_nil : (writes : List Write) → writes ++ [] ≡ writes
        append_nil [] = refl
        append_nil (it ∷ writes) = ap (λ (more : List Write). it ∷ more) (append_nil writes)
