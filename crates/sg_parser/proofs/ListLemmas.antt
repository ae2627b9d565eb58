-- Lists of anything that is read.
use Rattle.std.specs.Prelude.{◌≡◌, refl, ℕ, zero, suc, ◌≤◌, ◌<◌, List, [], ◌∷◌, ◌++◌, map, length, Option, Some, None}
use Rattle.std.specs.List.{AllByRecursion}
use Rattle.std.proofs.Common.{sym, ◌∙◌, ap, arith, append_assoc, append-nil, length-append}
use Rattle.std.proofs.lemmas.Option.{some_pair_parts}
use Rattle.sg_ast.specs.declared.token.Sign.TheVariants as s
use Rattle.sg_ast.specs.declared.token.Token.{Token}
use Rattle.sg_ast.specs.declared.token.Token.TheVariants as t
use Rattle.sg_ast.specs.Expr.{with_commas, each_more}
use Rattle.sg_ast.specs.Stmt.{joined_lists}
use Rattle.sg_parser.specs.Front.{Reader, after_sign, comma_list_on, comma_list_from, comma_list, list_to_end_on, list_to_end_from, list_to_end}
use Rattle.sg_words.specs.Options.{◌>>=◌}
use Rattle.sg_parser.proofs.StepLemmas.{bind_some, after_sign_is}

-- a reader takes only what its values have as tokens
abbrev pub IsSoundReader : {A : Type 0} → (A → List Token) → (A → Type 0) → Reader A → Type 0
IsSoundReader {A} spelled Good one = (tokens : List Token) (x : A) (rest : List Token) → one tokens ≡ Some (x, rest) → Good x × (tokens ≡ spelled x ++ rest)

-- what a list with commas took
pub record ListTaken {A : Type 0} (spelled : A → List Token) (Good : A → Type 0) (found : List A) (tokens : List Token) (all : List A) (rest : List Token) : Type 0 where
  pub items : List A
  pub together : all ≡ found ++ items
  pub some : 1 ≤ length items
  pub good : AllByRecursion Good items
  pub parts : tokens ≡ with_commas (map spelled items) ++ rest

-- what a list up to its end took
pub record RepeatTaken {A : Type 0} (spelled : A → List Token) (Good : A → Type 0) (end : List Token → Option (List Token)) (found : List A) (tokens : List Token) (all : List A) (rest : List Token) : Type 0 where
  pub items : List A
  pub tail : List Token
  pub together : all ≡ found ++ items
  pub good : AllByRecursion Good items
  pub parts : tokens ≡ joined_lists (map spelled items) ++ tail
  pub ends : end tail ≡ Some rest

module _ (A : Type 0) (one : Reader A) (spelled : A → List Token) (Good : A → Type 0) (sound : IsSoundReader spelled Good one) where
  longer : (x : A) (items : List A) → 1 ≤ length items → with_commas (map spelled (x ∷ items)) ≡ spelled x ++ t.Sign s.Comma ∷ with_commas (map spelled items)
  longer x [] h = absurd (omega arith)
  longer x (y ∷ ys) h = refl

  pub listed_from_sound : (turns : ℕ) (found : List A) (tokens : List Token) (all : List A) (rest : List Token) → comma_list_from one turns found tokens ≡ Some (all, rest)
      → ListTaken spelled Good found tokens all rest
  unfolding comma_list_from
  listed_from_sound zero found tokens all rest h = absurd (cc)
  listed_from_sound (suc turns) found tokens all rest h =
      let p = bind_some (one tokens) (λ (first : A × List Token). comma_list_on (found ++ first.0 ∷ []) first.1 (comma_list_from one turns (found ++ first.0 ∷ [])) (after_sign s.Comma first.1)) (all, rest) h in
      go p.0.0 p.0.1 (sound tokens p.0.0 p.0.1 p.1) (listed_from_sound turns (found ++ p.0.0 ∷ [])) (after_sign s.Comma p.0.1) refl p.2 where
        go : (x : A) (left : List Token) → Good x × (tokens ≡ spelled x ++ left)
            → ((behind : List Token) (all : List A) (rest : List Token) → comma_list_from one turns (found ++ x ∷ []) behind ≡ Some (all, rest) → ListTaken spelled Good (found ++ x ∷ []) behind all rest)
            → (after : Option (List Token)) → after_sign s.Comma left ≡ after
            → comma_list_on (found ++ x ∷ []) left (comma_list_from one turns (found ++ x ∷ [])) after ≡ Some (all, rest) → ListTaken spelled Good found tokens all rest
        go x left taken more None is h = let q = some_pair_parts (found ++ x ∷ []) all left rest h in record {
          items = x ∷ [];
          together = sym q.0;
          some = omega arith;
          good = (taken.0, tt);
          parts = taken.1 ∙ ap (λ r. spelled x ++ r) q.1 ∙ sym (ap (λ r. r ++ rest) (append-nil (spelled x)));
        }
        go x left taken more (Some after) is h = let m = more after all rest h in record {
          items = x ∷ m.items;
          together = m.together ∙ append_assoc found (x ∷ []) m.items;
          some = omega arith;
          good = (taken.0, m.good);
          parts = taken.1 ∙ ap (λ r. spelled x ++ r) (after_sign_is s.Comma left after is ∙ ap (λ r. t.Sign s.Comma ∷ r) m.parts)
              ∙ sym (ap (λ r. r ++ rest) (longer x m.items m.some) ∙ append_assoc (spelled x) (t.Sign s.Comma ∷ with_commas (map spelled m.items)) rest);
        }

  pub repeated_from_sound : (end : List Token → Option (List Token)) (turns : ℕ) (found : List A) (tokens : List Token) (all : List A) (rest : List Token)
      → list_to_end_from end one turns found tokens ≡ Some (all, rest) → RepeatTaken spelled Good end found tokens all rest
  unfolding list_to_end_from
  repeated_from_sound end zero found tokens all rest h = absurd (cc)
  repeated_from_sound end (suc turns) found tokens all rest h = go (repeated_from_sound end turns) (end tokens) refl h where
    go : ((found : List A) (tokens : List Token) (all : List A) (rest : List Token) → list_to_end_from end one turns found tokens ≡ Some (all, rest) → RepeatTaken spelled Good end found tokens all rest)
        → (after : Option (List Token)) → end tokens ≡ after
        → list_to_end_on found (one tokens >>= λ first. list_to_end_from end one turns (found ++ first.0 ∷ []) first.1) after ≡ Some (all, rest) → RepeatTaken spelled Good end found tokens all rest
    go more (Some after) is h = let q = some_pair_parts found all after rest h in record {
      items = [];
      tail = tokens;
      together = sym q.0 ∙ sym (append-nil found);
      good = tt;
      parts = refl;
      ends = is ∙ ap Some q.1;
    }
    go more None is h =
        let p = bind_some (one tokens) (λ (first : A × List Token). list_to_end_from end one turns (found ++ first.0 ∷ []) first.1) (all, rest) h in
        let taken = sound tokens p.0.0 p.0.1 p.1 in
        let m = more (found ++ p.0.0 ∷ []) p.0.1 all rest p.2 in record {
          items = p.0.0 ∷ m.items;
          tail = m.tail;
          together = m.together ∙ append_assoc found (p.0.0 ∷ []) m.items;
          good = (taken.0, m.good);
          parts = taken.1 ∙ ap (λ r. spelled p.0.0 ++ r) m.parts ∙ sym (append_assoc (spelled p.0.0) (joined_lists (map spelled m.items)) m.tail);
          ends = m.ends;
        }

  pub listed_sound : (tokens : List Token) (all : List A) (rest : List Token) → comma_list one tokens ≡ Some (all, rest)
      → (1 ≤ length all) × AllByRecursion Good all × (tokens ≡ with_commas (map spelled all) ++ rest)
  listed_sound tokens all rest h = let m = listed_from_sound (length tokens) [] tokens all rest h in rw m.together (m.some, m.good, m.parts)

  pub repeated_sound : (end : List Token → Option (List Token)) (tokens : List Token) (all : List A) (rest : List Token) → list_to_end end one tokens ≡ Some (all, rest)
      → (tail : List Token) × AllByRecursion Good all × (tokens ≡ joined_lists (map spelled all) ++ tail) × (end tail ≡ Some rest)
  repeated_sound end tokens all rest h = let m = repeated_from_sound end (length tokens) [] tokens all rest h in rw m.together (m.tail, m.good, m.parts, m.ends)

-- a list has no more items than tokens, where each item has one
some_each_more : {A : Type 0} (spelled : A → List Token) (items : List A) → length items ≤ length (each_more (map spelled items))
some_each_more spelled [] = omega arith
some_each_more spelled (x ∷ items) = omega (arith, some_each_more spelled items, length-append (spelled x) (each_more (map spelled items)))

some_separated : {A : Type 0} (spelled : A → List Token) (items : List A) (rest : List Token) → 1 ≤ length rest → length items ≤ length (with_commas (map spelled items) ++ rest)
some_separated spelled [] rest h = omega arith
some_separated spelled (x ∷ items) rest h = omega (arith, some_each_more spelled items, length-append (spelled x) (each_more (map spelled items)), length-append (spelled x ++ each_more (map spelled items)) rest)

-- if a reader takes the tokens of each of its values, if what follows them is as it wants
module _ (A : Type 0) (one : Reader A) (spelled : A → List Token) (Good : A → Type 0) (Stops : List Token → Type 0)
    (complete : (x : A) (rest : List Token) → Good x → Stops rest → one (spelled x ++ rest) ≡ Some (x, rest)) where
  pub listed_from_complete : ((more : List Token) → Stops (t.Sign s.Comma ∷ more)) → (turns : ℕ) (found items : List A) (rest : List Token)
      → length items ≤ turns → 1 ≤ length items → AllByRecursion Good items → Stops rest → after_sign s.Comma rest ≡ None
      → comma_list_from one turns found (with_commas (map spelled items) ++ rest) ≡ Some (found ++ items, rest)
  unfolding comma_list_from
  listed_from_complete stops_comma turns found [] rest enough some good stops no_comma = absurd (omega arith)
  listed_from_complete stops_comma zero found (x ∷ items) rest enough some good stops no_comma = absurd (omega arith)
  listed_from_complete stops_comma (suc turns) found (x ∷ []) rest enough some good stops no_comma =
      rw (append-nil (spelled x), complete x rest good.0 stops, no_comma) refl
  listed_from_complete stops_comma (suc turns) found (x ∷ y ∷ ys) rest enough some good stops no_comma =
      rw (append_assoc (spelled x) (each_more (map spelled (y ∷ ys))) rest, complete x (t.Sign s.Comma ∷ (with_commas (map spelled (y ∷ ys)) ++ rest)) good.0 (stops_comma (with_commas (map spelled (y ∷ ys)) ++ rest)))
      (listed_from_complete stops_comma turns (found ++ x ∷ []) (y ∷ ys) rest (omega arith) (omega arith) good.1 stops no_comma
      ∙ ap (λ (all : List A). Some (all, rest)) (append_assoc found (x ∷ []) (y ∷ ys)))

  pub listed_complete : ((more : List Token) → Stops (t.Sign s.Comma ∷ more)) → (items : List A) (rest : List Token)
      → 1 ≤ length items → AllByRecursion Good items → Stops rest → 1 ≤ length rest → after_sign s.Comma rest ≡ None
      → comma_list one (with_commas (map spelled items) ++ rest) ≡ Some (items, rest)
  listed_complete stops_comma items rest some good stops more no_comma =
      listed_from_complete stops_comma (length (with_commas (map spelled items) ++ rest)) [] items rest (some_separated spelled items rest more) some good stops no_comma

  pub repeated_from_complete : (end : List Token → Option (List Token)) → ((x : A) (more : List Token) → Good x → Stops (spelled x ++ more))
      → ((x : A) (more : List Token) → Good x → end (spelled x ++ more) ≡ None)
      → (turns : ℕ) (found items : List A) (tail rest : List Token)
      → length items < turns → AllByRecursion Good items → Stops tail → end tail ≡ Some rest
      → list_to_end_from end one turns found (joined_lists (map spelled items) ++ tail) ≡ Some (found ++ items, rest)
  unfolding list_to_end_from
  repeated_from_complete end stops_more no_end zero found items tail rest enough good stops ends = absurd (omega arith)
  repeated_from_complete end stops_more no_end (suc turns) found [] tail rest enough good stops ends = rw (ends, append-nil found) refl
  repeated_from_complete end stops_more no_end (suc turns) found (x ∷ items) tail rest enough good stops ends =
      rw (append_assoc (spelled x) (joined_lists (map spelled items)) tail, no_end x (joined_lists (map spelled items) ++ tail) good.0, complete x (joined_lists (map spelled items) ++ tail) good.0 (follows items good.1))
      (repeated_from_complete end stops_more no_end turns (found ++ x ∷ []) items tail rest (omega arith) good.1 stops ends
      ∙ ap (λ (all : List A). Some (all, rest)) (append_assoc found (x ∷ []) items)) where
        follows : (items : List A) → AllByRecursion Good items → Stops (joined_lists (map spelled items) ++ tail)
        follows [] h = stops
        follows (y ∷ ys) h = rw (append_assoc (spelled y) (joined_lists (map spelled ys)) tail) (stops_more y (joined_lists (map spelled ys) ++ tail) h.0)

  some_joined : ((x : A) → Good x → 1 ≤ length (spelled x)) → (items : List A) → AllByRecursion Good items → length items ≤ length (joined_lists (map spelled items))
  some_joined some [] good = omega arith
  some_joined some (x ∷ items) good = omega (arith, some x good.0, some_joined some items good.1, length-append (spelled x) (joined_lists (map spelled items)))

  pub repeated_complete : (end : List Token → Option (List Token)) → ((x : A) (more : List Token) → Good x → Stops (spelled x ++ more))
      → ((x : A) (more : List Token) → Good x → end (spelled x ++ more) ≡ None) → ((x : A) → Good x → 1 ≤ length (spelled x))
      → (items : List A) (tail rest : List Token) → AllByRecursion Good items → Stops tail → 1 ≤ length tail → end tail ≡ Some rest
      → list_to_end end one (joined_lists (map spelled items) ++ tail) ≡ Some (items, rest)
  repeated_complete end stops_more no_end some items tail rest good stops left ends =
      repeated_from_complete end stops_more no_end (length (joined_lists (map spelled items) ++ tail)) [] items tail rest
      (omega (arith, some_joined some items good, length-append (joined_lists (map spelled items)) tail)) good stops ends

-- facts of all items, one after the other
pub all_map : {A : Type 0} (P Q : A → Type 0) → ((x : A) → P x → Q x) → (items : List A) → AllByRecursion P items → AllByRecursion Q items
all_map P Q f [] h = tt
all_map P Q f (x ∷ items) h = (f x h.0, all_map P Q f items h.1)
