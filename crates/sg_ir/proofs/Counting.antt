-- What a block sets, one block after another: how often something is set, and whether numbers go up.
use Rattle.std.proofs.Common.{◌≡◌, ℕ, ◌+◌, ◌==◌, zero-add, min, Bool, true, false, ◌&&◌, cond, List, [], ◌∷◌, ◌++◌, map, Option, Some, None, OnSome, refl, sym, ap, ◌∙◌, arith, ℤ}
use Rattle.std.specs.Prelude.{option_and_then, count_by}
use Rattle.std.specs.List.{flat_map, list_all}
use Rattle.std.proofs.lemmas.List.Sums.{sum_by-append, sum_by-cons}
use Rattle.std.proofs.lemmas.List.Folds.{list_all-append}
use Rattle.sg_ir.specs.declared.code.Inst.{Inst}
use Rattle.sg_ir.specs.declared.code.Inst.TheVariants as v
use Rattle.sg_ir.specs.declared.settings.Target.{Target}
use Rattle.sg_ir.specs.declared.settings.Target.TheVariants as t
use Rattle.sg_ir.specs.declared.settings.Next.{Next}
use Rattle.sg_ir.specs.WellTyped.{SetName, SetsVar, SetsReg, SetsPlace, sets_step, settings, in_order, reg_number, place_number, var_number}
use Rattle.sg_ir.specs.steps.Targets.{is_setting, inst_settings, set_times, ascends, passes, once_in, inst_once}
use Rattle.sg_ir.proofs.Folds.{fold-If, fold-For}

in_order-map : {X : Type 0} (f : X → List SetName) (xs : List X) → in_order (map f xs) ≡ flat_map f xs
in_order-map f [] = refl
in_order-map f (x ∷ xs) = ap (λ more. f x ++ more) (in_order-map f xs)

pub settings-If : (cond : ℕ) (block otherwise : List Inst) → inst_settings (v.If cond block otherwise) ≡ settings block ++ settings otherwise
settings-If cond block otherwise =
    fold-If sets_step cond block otherwise
    ∙ ap (λ set. set ++ in_order (map inst_settings otherwise)) (in_order-map inst_settings block)
    ∙ ap (λ set. settings block ++ set) (in_order-map inst_settings otherwise)

pub settings-For : (var : ℕ) (lo hi : ℤ) (body : List Inst) → inst_settings (v.For var lo hi body) ≡ SetsVar var ∷ settings body
settings-For var lo hi body = fold-For sets_step var lo hi body ∙ ap (λ set. SetsVar var ∷ set) (in_order-map inst_settings body)

pub times-append : (what : Target) (xs ys : List SetName) → set_times what (xs ++ ys) ≡ min 2 (set_times what xs + set_times what ys)
times-append what xs ys =
    let e = sum_by-append (λ (s : SetName). cond (is_setting what s) 1 0) xs ys in
    ap (λ n. min 2 n) e ∙ capped (count_by (is_setting what) xs) (count_by (is_setting what) ys)
  where
    capped : (a b : ℕ) → min 2 (a + b) ≡ min 2 (min 2 a + min 2 b)
    capped a b = omega arith

pub times-If : (what : Target) (inst : Inst) (cond : ℕ) (block otherwise : List Inst) (n a b : ℕ) →
    inst ≡ v.If cond block otherwise → n ≡ min 2 (a + b) → a ≡ set_times what (settings block) → b ≡ set_times what (settings otherwise) →
    n ≡ set_times what (inst_settings inst)
times-If what inst cond block otherwise n a b is sum first second =
    let e = times-append what (settings block) (settings otherwise) in
    let s = ap (set_times what) (ap inst_settings is ∙ settings-If cond block otherwise) in
    let f : min 2 (a + b) ≡ min 2 (set_times what (settings block) + set_times what (settings otherwise)) = rw (first, second) refl in
    sum ∙ f ∙ sym e ∙ sym s

pub times-For : (what : Target) (inst : Inst) (var : ℕ) (lo hi : ℤ) (body : List Inst) (n a b : ℕ) →
    inst ≡ v.For var lo hi body → n ≡ min 2 (a + b) → a ≡ set_times what (SetsVar var ∷ []) → b ≡ set_times what (settings body) →
    n ≡ set_times what (inst_settings inst)
times-For what inst var lo hi body n a b is sum first second =
    let e = times-append what (SetsVar var ∷ []) (settings body) in
    let s = ap (set_times what) (ap inst_settings is ∙ settings-For var lo hi body) in
    let f : min 2 (a + b) ≡ min 2 (set_times what (SetsVar var ∷ []) + set_times what (settings body)) = rw (first, second) refl in
    sum ∙ f ∙ sym e ∙ sym s

behind : (both first second : Next → Option Next) → ((n : Next) → both n ≡ option_and_then second (first n)) →
    (next : Option Next) → option_and_then both next ≡ option_and_then second (option_and_then first next)
behind both first second e None = refl
behind both first second e (Some n) = e n

pub ascends-append : (from : Next) (xs ys : List SetName) → ascends from (xs ++ ys) ≡ option_and_then (λ next. ascends next ys) (ascends from xs)
ascends-append from [] ys = refl
ascends-append from (x ∷ xs) ys = behind (λ (n : Next). ascends n (xs ++ ys)) (λ (n : Next). ascends n xs) (λ (n : Next). ascends n ys) (λ n. ascends-append n xs ys) (passes x from)

pub ascends-both : (from : Next) (xs ys : List SetName) (next : Next) (end : Option Next) → ascends from xs ≡ Some next → ascends next ys ≡ end → ascends from (xs ++ ys) ≡ end
ascends-both from xs ys next end first second =
    ascends-append from xs ys ∙ ap (option_and_then (λ n. ascends n ys)) first ∙ second

pub ascends-If : (from : Next) (inst : Inst) (cond : ℕ) (block otherwise : List Inst) (next : Next) (end : Option Next) →
    inst ≡ v.If cond block otherwise → ascends from (settings block) ≡ Some next → OnSome end (ascends next (settings otherwise) ≡ end) →
    OnSome end (ascends from (inst_settings inst) ≡ end)
ascends-If from inst cond block otherwise next None is first second = tt
ascends-If from inst cond block otherwise next (Some end) is first second =
    ap (ascends from) (ap inst_settings is ∙ settings-If cond block otherwise) ∙ ascends-both from (settings block) (settings otherwise) next (Some end) first second

pub ascends-For : (from : Next) (inst : Inst) (var : ℕ) (lo hi : ℤ) (body : List Inst) (end : Option Next) →
    inst ≡ v.For var lo hi body → OnSome end (ascends from (settings body) ≡ end) → OnSome end (ascends from (inst_settings inst) ≡ end)
ascends-For from inst var lo hi body None is behind = tt
ascends-For from inst var lo hi body (Some end) is behind = ap (ascends from) (ap inst_settings is ∙ settings-For var lo hi body) ∙ behind

-- all is once in a list of what instructions set
all-flat : {X : Type 0} (p : SetName → Bool) (f : X → List SetName) (xs : List X) → list_all p (flat_map f xs) ≡ list_all (λ x. list_all p (f x)) xs
all-flat p f [] = refl
all-flat p f (x ∷ xs) = list_all-append p (f x) (flat_map f xs) ∙ ap (λ b. list_all p (f x) && b) (all-flat p f xs)

pub once-settings : (all : List SetName) (block : List Inst) → list_all (once_in all) (settings block) ≡ list_all (inst_once all) block
once-settings all block = all-flat (once_in all) inst_settings block

pub once-If : (all : List SetName) (inst : Inst) (cond : ℕ) (block otherwise : List Inst) → inst ≡ v.If cond block otherwise →
    inst_once all inst ≡ (list_all (inst_once all) block && list_all (inst_once all) otherwise)
once-If all inst cond block otherwise is =
    ap (list_all (once_in all)) (ap inst_settings is ∙ settings-If cond block otherwise)
    ∙ list_all-append (once_in all) (settings block) (settings otherwise)
    ∙ ap (λ b. b && list_all (once_in all) (settings otherwise)) (once-settings all block)
    ∙ ap (λ b. list_all (inst_once all) block && b) (once-settings all otherwise)

pub once-For : (all : List SetName) (inst : Inst) (var : ℕ) (lo hi : ℤ) (body : List Inst) → inst ≡ v.For var lo hi body →
    inst_once all inst ≡ list_all (inst_once all) body
once-For all inst var lo hi body is =
    ap (list_all (once_in all)) (ap inst_settings is ∙ settings-For var lo hi body) ∙ once-settings all body

pub and-both : (a b r : Bool) → r ≡ (a && b) → a ≡ true → b ≡ r
and-both true b r e h = sym e
and-both false b r e h = cc

pub and-no : (a b r : Bool) → r ≡ (a && b) → a ≡ false → r ≡ false
and-no true b r e h = cc
and-no false b r e h = e

-- how often a number is set, among those of its kind
pub count-cons : {X : Type 0} (p : X → Bool) (x : X) (xs : List X) → count_by p (x ∷ xs) ≡ cond (p x) 1 0 + count_by p xs
count-cons p x xs = sum_by-cons (λ y. cond (p y) 1 0) x xs

count-kind : (p : SetName → Bool) (q : ℕ → Bool) (numbers : SetName → List ℕ) →
    ((s : SetName) (rest : List SetName) (more : List ℕ) → count_by p rest ≡ count_by q more → count_by p (s ∷ rest) ≡ count_by q (numbers s ++ more)) →
    (set : List SetName) → count_by p set ≡ count_by q (flat_map numbers set)
count-kind p q numbers step [] = refl
count-kind p q numbers step (s ∷ set) = step s set (flat_map numbers set) (count-kind p q numbers step set)

-- a setting that counts, and one that doesn't
counts : {X : Type 0} (p : X → Bool) (q : ℕ → Bool) (x : X) (n : ℕ) (rest : List X) (more : List ℕ) → p x ≡ q n → count_by p rest ≡ count_by q more → count_by p (x ∷ rest) ≡ count_by q (n ∷ more)
counts p q x n rest more same h =
    count-cons p x rest ∙ ap (λ (b : Bool). cond b 1 0 + count_by p rest) same ∙ ap (λ (k : ℕ). cond (q n) 1 0 + k) h ∙ sym (count-cons q n more)

leaves_out : {X : Type 0} (p : X → Bool) (q : ℕ → Bool) (x : X) (rest : List X) (more : List ℕ) → p x ≡ false → count_by p rest ≡ count_by q more → count_by p (x ∷ rest) ≡ count_by q more
leaves_out p q x rest more no_x h = count-cons p x rest ∙ ap (λ (b : Bool). cond b 1 0 + count_by p rest) no_x ∙ zero-add (count_by p rest) ∙ h

pub count-regs : (r : ℕ) (set : List SetName) → count_by (is_setting (t.Reg r)) set ≡ count_by (λ n. n == r) (flat_map reg_number set)
count-regs r set = count-kind (is_setting (t.Reg r)) (λ n. n == r) reg_number step set
  where
    step : (s : SetName) (rest : List SetName) (more : List ℕ) → count_by (is_setting (t.Reg r)) rest ≡ count_by (λ n. n == r) more → count_by (is_setting (t.Reg r)) (s ∷ rest) ≡ count_by (λ n. n == r) (reg_number s ++ more)
    step (SetsReg n) rest more h = counts (is_setting (t.Reg r)) (λ k. k == r) (SetsReg n) n rest more refl h
    step (SetsPlace n) rest more h = leaves_out (is_setting (t.Reg r)) (λ k. k == r) (SetsPlace n) rest more refl h
    step (SetsVar n) rest more h = leaves_out (is_setting (t.Reg r)) (λ k. k == r) (SetsVar n) rest more refl h

pub count-places : (p : ℕ) (set : List SetName) → count_by (is_setting (t.Place p)) set ≡ count_by (λ n. n == p) (flat_map place_number set)
count-places p set = count-kind (is_setting (t.Place p)) (λ n. n == p) place_number step set
  where
    step : (s : SetName) (rest : List SetName) (more : List ℕ) → count_by (is_setting (t.Place p)) rest ≡ count_by (λ n. n == p) more → count_by (is_setting (t.Place p)) (s ∷ rest) ≡ count_by (λ n. n == p) (place_number s ++ more)
    step (SetsReg n) rest more h = leaves_out (is_setting (t.Place p)) (λ k. k == p) (SetsReg n) rest more refl h
    step (SetsPlace n) rest more h = counts (is_setting (t.Place p)) (λ k. k == p) (SetsPlace n) n rest more refl h
    step (SetsVar n) rest more h = leaves_out (is_setting (t.Place p)) (λ k. k == p) (SetsVar n) rest more refl h

pub count-vars : (v : ℕ) (set : List SetName) → count_by (is_setting (t.Var v)) set ≡ count_by (λ n. n == v) (flat_map var_number set)
count-vars v set = count-kind (is_setting (t.Var v)) (λ n. n == v) var_number step set
  where
    step : (s : SetName) (rest : List SetName) (more : List ℕ) → count_by (is_setting (t.Var v)) rest ≡ count_by (λ n. n == v) more → count_by (is_setting (t.Var v)) (s ∷ rest) ≡ count_by (λ n. n == v) (var_number s ++ more)
    step (SetsReg n) rest more h = leaves_out (is_setting (t.Var v)) (λ k. k == v) (SetsReg n) rest more refl h
    step (SetsPlace n) rest more h = leaves_out (is_setting (t.Var v)) (λ k. k == v) (SetsPlace n) rest more refl h
    step (SetsVar n) rest more h = counts (is_setting (t.Var v)) (λ k. k == v) (SetsVar n) n rest more refl h
