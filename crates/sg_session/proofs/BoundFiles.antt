-- Where the file of a name is found.
use Rattle.std.proofs.Common.{◌≡◌, ℕ, suc, ◌+◌, ◌<◌, true, false, List, ◌∷◌, map, length, drop, get_or, drop-cons, add-one, Some, refl, sym, ap, ◌∙◌}
use Rattle.std.specs.Prelude.{string_bytes}
use Rattle.sg_ast.specs.declared.token.Name.{Name}
use Rattle.sg_ast.specs.Token.{same_name}
use Rattle.sg_session.specs.declared.binds.Bind.{Bind}
use Rattle.sg_session.specs.Bindings.{binding_read, file_bound}

drop_item : (xs : List Bind) (i : ℕ) (x : Bind) → i < length xs → x ≡ get_or xs i x → drop i xs ≡ x ∷ drop (i + 1) xs
drop_item xs i x below at = rw add-one (drop-cons xs i x below ∙ ap (λ y. y ∷ drop (suc i) xs) (sym at))

pub found_here : (binds : List Bind) (name : Name) (i : ℕ) (bind : Bind) → i < length binds → bind ≡ get_or binds i bind → same_name name bind.name ≡ true
    → file_bound (map binding_read (drop i binds)) name ≡ Some (string_bytes bind.file)
found_here binds name i bind below at same = ap (λ (bs : List Bind). file_bound (map binding_read bs) name) (drop_item binds i bind below at) ∙ rw same refl

pub not_here : (binds : List Bind) (name : Name) (i : ℕ) (bind : Bind) → i < length binds → bind ≡ get_or binds i bind → same_name name bind.name ≡ false
    → file_bound (map binding_read (drop (i + 1) binds)) name ≡ file_bound (map binding_read (drop i binds)) name
not_here binds name i bind below at same = sym (ap (λ (bs : List Bind). file_bound (map binding_read bs) name) (drop_item binds i bind below at) ∙ rw same refl)
