-- A text cut at the first `=`.
use Rattle.std.proofs.Common.{◌≡◌, ℕ, ◌<◌, ◌==◌, Bool, true, false, List, length, Option, Some, None, option_map, refl, sym, ap, ◌∙◌, arith, get_or, Bor}
use Rattle.std.specs.List.{list_any, position_or_len}
use Rattle.std.proofs.lemmas.List.Folds.{list_any_at, list_any_none}
use Rattle.std.proofs.lemmas.List.Sums.{passes_at_first, fails_before_first}
use Rattle.std.proofs.lemmas.Str.Pattern.{IsSplitOnceResult, split_once_first}
use Rattle.std.specs.Prelude.{map, bytes_eq}
use Rattle.std.proofs.lemmas.List.{length-map, get_or-map}
use Rattle.sg_session.specs.declared.binds.Bind.{Bind}
use Rattle.sg_session.specs.Bindings.{binding_read}
use Rattle.sparsegrid.specs.Words as spec

any_before_end : (p : ℕ → Bool) (xs : List ℕ) → position_or_len p xs < length xs → list_any p xs ≡ true
any_before_end p xs h = list_any_at p xs (position_or_len p xs) 0 h (passes_at_first p xs 0 h)

none_at_end : (p : ℕ → Bool) (xs : List ℕ) → position_or_len p xs ≡ length xs → list_any p xs ≡ false
none_at_end p xs h = list_any_none p xs (λ k d within. fails_before_first p xs k d (rw h within))

pub cut_at_equals : (word : List ℕ) (result : Option (Bor (List ℕ) × Bor (List ℕ))) → IsSplitOnceResult 61 word result
    → option_map {T = Bor (List ℕ) × Bor (List ℕ)} {U = List ℕ × List ℕ} (λ cut. (cut.0.now, cut.1.now)) result ≡ spec.at_equals word
cut_at_equals word None is = rw (none_at_end (λ byte. byte == 61) word (split_once_first 61 word None is (omega arith))) refl
cut_at_equals word (Some cut) is =
    let parts = split_once_first 61 word (Some cut) is (omega arith) in
    rw (any_before_end (λ byte. byte == 61) word parts.0, parts.1, parts.2) refl

-- a name that a binding has is bound
pub bound_there : (binds : List Bind) (name : List ℕ) (index : ℕ) (bind : Bind) → index < length binds → bind ≡ get_or binds index bind
    → bytes_eq bind.name.text name ≡ true → true ≡ spec.has_binding (map binding_read binds) name
bound_there binds name index bind within at same =
    let here : get_or (map binding_read binds) index (binding_read bind) ≡ binding_read bind = get_or-map binding_read binds index bind (binding_read bind) within ∙ ap binding_read (sym at) in
    sym (list_any_at (λ binding. bytes_eq binding.name name) (map binding_read binds) index (binding_read bind) (rw (length-map binds) within) (rw here same))
