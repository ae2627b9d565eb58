-- What a writer of known bytes holds after one write of the rest of a piece.
use Rattle.std.proofs.Common.{◌≡◌, ℕ, ◌+◌, ◌-◌, ◌<◌, ◌≤◌, ◌≢◌, List, ◌++◌, length, take, drop, Option, Some, None, sym, ap, ◌∙◌, append_assoc, arith, length-drop}
use Rattle.std.specs.Io.KnownBytes.{Keeps, Appends}
use Rattle.std.proofs.Math.Seq.{take-add}
use Rattle.std.proofs.lemmas.List.{append-nil, take_rest}

-- known bytes that stay are the same bytes
known_stay : (old new : Option (List ℕ)) (held : List ℕ) → old ≡ Some held → Keeps old new → new ≡ Some held
known_stay None new held is k = absurd (cc)
known_stay (Some xs) None held is k = absurd k
known_stay (Some xs) (Some ys) held is k = ap Some k ∙ is

-- known bytes that grow are those bytes with more after them
known_grow : (old new : Option (List ℕ)) (held more : List ℕ) → old ≡ Some held → Appends old new more → new ≡ Some (held ++ more)
known_grow None new held more is k = absurd (cc)
known_grow (Some xs) None held more is k = absurd k
known_grow (Some xs) (Some ys) held more is k =
    let same : xs ≡ held = cc in
    ap Some (k ∙ ap (λ zs. zs ++ more) same)

-- after a write of nothing, the same front of a piece is written
pub known_same : (old new : Option (List ℕ)) (held piece : List ℕ) (taken now : ℕ) → now ≡ taken → old ≡ Some (held ++ take taken piece) → Keeps old new → new ≡ Some (held ++ take now piece)
known_same old new held piece taken now e is k = rw e (known_stay old new _ is k)

-- and where that front is empty, nothing is
pub known_none : (old new : Option (List ℕ)) (held piece : List ℕ) (taken : ℕ) → taken ≡ 0 → old ≡ Some (held ++ take taken piece) → Keeps old new → new ≡ Some held
known_none old new held piece taken e is k =
    known_stay old new _ is k ∙ ap (λ n. Some (held ++ take n piece)) e ∙ ap Some (append-nil held)

-- after a write of the rest of a piece, a longer front of it is written
pub known_more : (old new : Option (List ℕ)) (held piece : List ℕ) (taken count now : ℕ) → now ≡ taken + count → old ≡ Some (held ++ take taken piece) → Appends old new (take count (take (length piece - taken) (drop taken piece))) → new ≡ Some (held ++ take now piece)
known_more old new held piece taken count now e is k =
    let rest : Appends old new (take count (drop taken piece)) = rw take_rest at k in
    rw e (known_grow old new _ _ is rest ∙ ap Some (append_assoc held _ _ ∙ ap (λ zs. held ++ zs) (sym (take-add taken count piece))))

-- a part of the rest of a piece that does not end it leaves more of it
pub more_left : (piece : List ℕ) (taken count now : ℕ) → now ≡ taken + count → count ≤ length (take (length piece - taken) (drop taken piece)) → taken + count ≢ length piece → taken < length piece → now < length piece
more_left piece taken count now e bound open_ended more =
    let fits : count ≤ length piece - taken = simp (take_rest, length-drop) at bound in
    omega arith
