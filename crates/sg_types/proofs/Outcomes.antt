-- What an Ok says of the steps that led to it.
use Rattle.std.proofs.Common.{◌≡◌, ℕ, Bool, true, false, cond, Option, Some, None, Result, Ok, Err, refl, ap, sym, ◌∙◌}
use Rattle.std.specs.Option.{option_and_then, option_map}
use Rattle.sg_types.specs.declared.wrongs.Wrongs.{Wrongs}
use Rattle.sg_types.specs.declared.typed.TypedExpr.{TypedExpr}
use Rattle.sg_types.specs.Scopes.{Known}
use Rattle.sg_words.specs.Results.{◌>>=◌}
use Rattle.sg_types.specs.Statements.{stmt_fault, part_or_code, judged_part, first_code}
use Rattle.sg_words.specs.Options.{only_where}

value_or : {A E : Type 0} → A → Result A E → A
value_or default (Ok x) = x
value_or default (Err e) = default

pub ok_same : {A E : Type 0} (x y : A) → ◌≡◌ {A = Result A E} (Ok x) (Ok y) → x ≡ y
unfolding value_or
ok_same x y h = ap (value_or y) h

some_or : {A : Type 0} → A → Option A → A
some_or default (Some x) = x
some_or default None = default

pub some_same : {A : Type 0} (x y : A) → Some x ≡ Some y → x ≡ y
unfolding some_or
some_same x y h = ap (some_or y) h

-- of two steps that end well the first does
pub then_ok : {A B E : Type 0} (r : Result A E) (f : A → Result B E) (y : B) → (r >>= f) ≡ Ok y → (x : A) × (r ≡ Ok x) × (f x ≡ Ok y)
then_ok (Ok x) f y h = (x, refl, h)
then_ok (Err e) f y h = let no_such : Err e ≡ Ok y = h in absurd (cc)

pub stmt_fault_ok : {A : Type 0} (known : Known) (number : ℕ) (r : Result A ℕ) (x : A) → stmt_fault known number r ≡ Ok x → r ≡ Ok x
stmt_fault_ok known number (Ok y) x h = ap Ok (ok_same y x h)
stmt_fault_ok known number (Err code) x h = let no_such : Err (record { kernel = known.kernel; stmt = number; code = code }) ≡ Ok x = h in absurd (cc)

pub record Fits {A : Type 0} (wrongs : Wrongs) (typed : Option A) (x : A) : Type 0 where
  pub known : wrongs.unknown ≡ false
  pub once : wrongs.twice ≡ false
  pub free : wrongs.fixed ≡ false
  pub counted : wrongs.miscounted ≡ false
  pub is : typed ≡ Some x

coded_ok : {A : Type 0} (code : Option ℕ) (typed : Option A) (x : A) → part_or_code code typed ≡ Ok x → (code ≡ None) × (typed ≡ Some x)
coded_ok (Some code) typed x h = let no_such : Err code ≡ Ok x = h in absurd (cc)
coded_ok None None x h = let no_such : Err 1 ≡ Ok x = h in absurd (cc)
coded_ok None (Some y) x h = (refl, ap Some (ok_same y x h))

no_code : (unknown twice fixed miscounted : Bool) → first_code (record { unknown = unknown; twice = twice; fixed = fixed; miscounted = miscounted }) ≡ None
    → (unknown ≡ false) × (twice ≡ false) × (fixed ≡ false) × (miscounted ≡ false)
no_code true twice fixed miscounted h = let no_such : Some 4 ≡ None = h in absurd (cc)
no_code false true fixed miscounted h = let no_such : Some 5 ≡ None = h in absurd (cc)
no_code false false true miscounted h = let no_such : Some 3 ≡ None = h in absurd (cc)
no_code false false false true h = let no_such : Some 2 ≡ None = h in absurd (cc)
no_code false false false false h = (refl, refl, refl, refl)

pub judged_ok : {A : Type 0} (wrongs : Wrongs) (typed : Option A) (x : A) → judged_part wrongs typed ≡ Ok x → Fits wrongs typed x
judged_ok wrongs typed x h =
    let parts = coded_ok (first_code wrongs) typed x h in
    let none = no_code wrongs.unknown wrongs.twice wrongs.fixed wrongs.miscounted parts.0 in
    record { known = none.0; once = none.1; free = none.2; counted = none.3; is = parts.1 }

pub option_and_then_some : {A B : Type 0} (f : A → Option B) (r : Option A) (y : B) → option_and_then f r ≡ Some y → (x : A) × (r ≡ Some x) × (f x ≡ Some y)
option_and_then_some f None y h = let no_such : None ≡ Some y = h in absurd (cc)
option_and_then_some f (Some x) y h = (x, refl, h)

pub option_map_some : {A B : Type 0} (f : A → B) (r : Option A) (y : B) → option_map f r ≡ Some y → (x : A) × (r ≡ Some x) × (f x ≡ y)
option_map_some f None y h = let no_such : None ≡ Some y = h in absurd (cc)
option_map_some f (Some x) y h = (x, refl, some_same (f x) y h)

pub if_some : {A : Type 0} (b : Bool) (x y : A) → cond b (Some x) None ≡ Some y → (b ≡ true) × (x ≡ y)
if_some true x y h = (refl, some_same x y h)
if_some false x y h = let no_such : None ≡ Some y = h in absurd (cc)

pub only_where_some : (test : TypedExpr → Bool) (typed : Option TypedExpr) (x : TypedExpr) → only_where test typed ≡ Some x → (typed ≡ Some x) × (test x ≡ true)
only_where_some test typed x h =
    let found = option_and_then_some (λ expr. cond (test expr) (Some expr) None) typed x h in
    let passed = if_some (test found.0) found.0 x found.2 in
    (found.1 ∙ ap Some passed.1, ap test (sym passed.1) ∙ passed.0)
