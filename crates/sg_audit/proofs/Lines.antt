-- What a line says: the text of a take or a free is read as it, and only that.
use Rattle.std.proofs.Common.{◌≡◌, ℕ, ◌^◌, ◌<◌, Bool, true, false, List, [], ◌∷◌, ◌++◌, get_or, Option, Some, None, codes, refl, sym, ap, ◌∙◌, subst, append_assoc}
use Rattle.std.specs.Str.{bytes_eq}
use Rattle.std.specs.Char.{is_ascii_digit}
use Rattle.std.proofs.lemmas.Slice.Eq.{bytes_eq-Decides}
use Rattle.std.proofs.lemmas.Option.{cond_some, option_and_then_some, some_pair_parts}
use Rattle.sg_words.specs.Options.{◌>>=◌, only_if}
use Rattle.sg_journal.specs.declared.lines.Link.{Link}
use Rattle.sg_journal.specs.declared.lines.Line.{Line}
use Rattle.sg_journal.specs.declared.lines.Line.TheVariants.{Take, Free}
use Rattle.sg_journal.specs.Lines.{behind_space, line_text, end_line, link, IsInRange}
use Rattle.sg_audit.specs.declared.reading.Entry.TheVariants.{Written, End}
use Rattle.sg_audit.specs.declared.reading.Numbered.{Numbered}
use Rattle.sg_audit.specs.Reading.{rest_after, number_at, numbered_at, take_at, free_at, written_or_bad, entry_by, entry_of}
use Rattle.sg_audit.proofs.Numerals.{rest_after_found, rest_after_written, number_found, number_written}

abbrev numbered : ℕ → ℕ → ℕ → Numbered
numbered layout node number = record { layout = layout; node = node; number = number }

-- the text of the numbers with which a line begins, with what stands behind it
abbrev named_text : Numbered → List ℕ → List ℕ
named_text named rest = behind_space named.layout ++ (behind_space named.node ++ (behind_space named.number ++ rest))

abbrev AreSmall : Numbered → Type 0
AreSmall named = (named.layout < 2 ^ 32) × (named.node < 2 ^ 32) × (named.number < 2 ^ 32)

-- what begins with a space or a newline begins with no digit
no_digit : (byte : ℕ) (rest : List ℕ) → is_ascii_digit byte ≡ false → is_ascii_digit (get_or (byte ∷ rest) 0 0) ≡ false
no_digit byte rest e = e

numbered_found : (bytes : List ℕ) (named : Numbered) (rest : List ℕ) → numbered_at bytes ≡ Some (named, rest) → (bytes ≡ named_text named rest) × AreSmall named
unfolding numbered_at
numbered_found bytes named rest e =
    option_and_then_some (λ (l : ℕ × List ℕ). number_at l.1 >>= (λ p. number_at p.1 >>= (λ n. Some (numbered l.0 p.0 n.0, n.1)))) (number_at bytes) (named, rest) e (λ l first more.
    option_and_then_some (λ (p : ℕ × List ℕ). number_at p.1 >>= (λ n. Some (numbered l.0 p.0 n.0, n.1))) (number_at l.1) (named, rest) more (λ p second more.
    option_and_then_some (λ (n : ℕ × List ℕ). let out : Option (Numbered × List ℕ) = Some (numbered l.0 p.0 n.0, n.1) in out) (number_at p.1) (named, rest) more (λ n third last.
    let parts = some_pair_parts (numbered l.0 p.0 n.0) named n.1 rest last in
    let a = number_found bytes l.0 l.1 first in
    let b = number_found l.1 p.0 p.1 second in
    let c = number_found p.1 n.0 n.1 third in (
      a.0 ∙ ap (λ (list : List ℕ). behind_space l.0 ++ list) (b.0 ∙ ap (λ (list : List ℕ). behind_space p.0 ++ list) c.0)
          ∙ ap (λ (list : List ℕ). named_text (numbered l.0 p.0 n.0) list) parts.1 ∙ ap (λ (m : Numbered). named_text m rest) parts.0,
      subst AreSmall parts.0 (a.1, b.1, c.1),
    ))))

numbered_written : (named : Numbered) (rest : List ℕ) → AreSmall named → is_ascii_digit (get_or rest 0 0) ≡ false → numbered_at (named_text named rest) ≡ Some (named, rest)
unfolding numbered_at
numbered_written named rest small ends =
    ap (λ (o : Option (ℕ × List ℕ)). o >>= (λ l. number_at l.1 >>= (λ p. number_at p.1 >>= (λ n. let out : Option (Numbered × List ℕ) = Some (numbered l.0 p.0 n.0, n.1) in out)))) (number_written named.layout (behind_space named.node ++ (behind_space named.number ++ rest)) small.0 refl)
    ∙ ap (λ (o : Option (ℕ × List ℕ)). o >>= (λ p. number_at p.1 >>= (λ n. let out : Option (Numbered × List ℕ) = Some (numbered named.layout p.0 n.0, n.1) in out))) (number_written named.node (behind_space named.number ++ rest) small.1 refl)
    ∙ ap (λ (o : Option (ℕ × List ℕ)). o >>= (λ n. let out : Option (Numbered × List ℕ) = Some (numbered named.layout named.node n.0, n.1) in out)) (number_written named.number rest small.2 ends)

-- ---- takes and frees behind their first words

abbrev take_rest : Link → List ℕ
take_rest l = named_text (numbered l.layout l.node l.number) (behind_space l.parent ++ (behind_space l.slot ++ 10 ∷ []))

abbrev free_rest : Numbered → List ℕ
free_rest named = named_text named (10 ∷ [])

take_text : (l : Link) → codes "take" ++ take_rest l ≡ line_text (Take l)
take_text l = simp append_assoc

free_text : (named : Numbered) → codes "free" ++ free_rest named ≡ line_text (Free named.layout named.node named.number)
free_text named = simp append_assoc

-- no take begins as a free does
no_take : (rest : List ℕ) → rest_after (codes "take") (codes "free" ++ rest) ≡ None
unfolding rest_after
no_take rest = refl

newline : (bytes : List ℕ) → bytes_eq bytes (codes "\n") ≡ true → bytes ≡ 10 ∷ []
newline bytes e = (bytes_eq-Decides bytes (10 ∷ [])).0 e

take_found : (bytes : List ℕ) (line : Line) → take_at bytes ≡ Some line → (codes "take" ++ bytes ≡ line_text line) × IsInRange line
unfolding take_at
take_found bytes line e =
    option_and_then_some (λ (a : Numbered × List ℕ). number_at a.1 >>= (λ q. number_at q.1 >>= (λ s. only_if (bytes_eq s.1 (codes "\n")) (Some (Take (link a.0.layout a.0.node a.0.number q.0 s.0)))))) (numbered_at bytes) line e (λ a first more.
    option_and_then_some (λ (q : ℕ × List ℕ). number_at q.1 >>= (λ s. only_if (bytes_eq s.1 (codes "\n")) (Some (Take (link a.0.layout a.0.node a.0.number q.0 s.0))))) (number_at a.1) line more (λ q second more.
    option_and_then_some (λ (s : ℕ × List ℕ). only_if (bytes_eq s.1 (codes "\n")) (let out : Option Line = Some (Take (link a.0.layout a.0.node a.0.number q.0 s.0)) in out)) (number_at q.1) line more (λ s third last.
    let end = cond_some (bytes_eq s.1 (codes "\n")) (Take (link a.0.layout a.0.node a.0.number q.0 s.0)) line last in
    let named = numbered_found bytes a.0 a.1 first in
    let parent = number_found a.1 q.0 q.1 second in
    let slot = number_found q.1 s.0 s.1 third in (
      ap (λ (list : List ℕ). codes "take" ++ list) (named.0 ∙ ap (named_text a.0) (parent.0 ∙ ap (λ (list : List ℕ). behind_space q.0 ++ list) (slot.0 ∙ ap (λ (list : List ℕ). behind_space s.0 ++ list) (newline s.1 end.0))))
          ∙ take_text (link a.0.layout a.0.node a.0.number q.0 s.0) ∙ ap line_text end.1,
      subst IsInRange end.1 (named.1.0, named.1.1, named.1.2, parent.1, slot.1),
    ))))

take_written : (l : Link) → IsInRange (Take l) → take_at (take_rest l) ≡ Some (Take l)
unfolding take_at
take_written l small =
    ap (λ (o : Option (Numbered × List ℕ)). o >>= (λ a. number_at a.1 >>= (λ q. number_at q.1 >>= (λ s. only_if (bytes_eq s.1 (codes "\n")) (let out : Option Line = Some (Take (link a.0.layout a.0.node a.0.number q.0 s.0)) in out)))))
    (numbered_written (numbered l.layout l.node l.number) (behind_space l.parent ++ (behind_space l.slot ++ 10 ∷ [])) (small.0, small.1, small.2) refl)
    ∙ ap (λ (o : Option (ℕ × List ℕ)). o >>= (λ q. number_at q.1 >>= (λ s. only_if (bytes_eq s.1 (codes "\n")) (let out : Option Line = Some (Take (link l.layout l.node l.number q.0 s.0)) in out))))
    (number_written l.parent (behind_space l.slot ++ 10 ∷ []) small.3 refl)
    ∙ ap (λ (o : Option (ℕ × List ℕ)). o >>= (λ s. only_if (bytes_eq s.1 (codes "\n")) (let out : Option Line = Some (Take (link l.layout l.node l.number l.parent s.0)) in out)))
    (number_written l.slot (10 ∷ []) small.4 refl)

free_found : (bytes : List ℕ) (line : Line) → free_at bytes ≡ Some line → (codes "free" ++ bytes ≡ line_text line) × IsInRange line
unfolding free_at
free_found bytes line e =
    option_and_then_some (λ (a : Numbered × List ℕ). only_if (bytes_eq a.1 (codes "\n")) (let out : Option Line = Some (Free a.0.layout a.0.node a.0.number) in out)) (numbered_at bytes) line e (λ a first last.
    let end = cond_some (bytes_eq a.1 (codes "\n")) (Free a.0.layout a.0.node a.0.number) line last in
    let named = numbered_found bytes a.0 a.1 first in (
      ap (λ (list : List ℕ). codes "free" ++ list) (named.0 ∙ ap (named_text a.0) (newline a.1 end.0)) ∙ free_text a.0 ∙ ap line_text end.1,
      subst IsInRange end.1 named.1,
    ))

free_written : (named : Numbered) → AreSmall named → free_at (free_rest named) ≡ Some (Free named.layout named.node named.number)
unfolding free_at
free_written named small =
    ap (λ (o : Option (Numbered × List ℕ)). o >>= (λ a. only_if (bytes_eq a.1 (codes "\n")) (let out : Option Line = Some (Free a.0.layout a.0.node a.0.number) in out))) (numbered_written named (10 ∷ []) small refl)

-- ---- whole lines

or_bad_found : (o : Option Line) (line : Line) → written_or_bad o ≡ Written line → o ≡ Some line
or_bad_found None line e = absurd (cc)
or_bad_found (Some other) line e = cc

or_bad_no_end : (o : Option Line) → written_or_bad o ≡ End → ⊥
or_bad_no_end None e = absurd (cc)
or_bad_no_end (Some other) e = absurd (cc)

pub entry_found : (text : List ℕ) (line : Line) → entry_of text ≡ Written line → (text ≡ line_text line) × IsInRange line
entry_found text line e = by_parts (rest_after (codes "take") text) (rest_after (codes "free") text) (bytes_eq text end_line) refl refl e where
  by_parts : (taken freed : Option (List ℕ)) (end : Bool) → rest_after (codes "take") text ≡ taken → rest_after (codes "free") text ≡ freed → entry_by taken freed end ≡ Written line
      → (text ≡ line_text line) × IsInRange line
  by_parts (Some rest) freed end t f e =
      let found = take_found rest line (or_bad_found (take_at rest) line e) in
      (rest_after_found (codes "take") text rest t ∙ found.0, found.1)
  by_parts None (Some rest) end t f e =
      let found = free_found rest line (or_bad_found (free_at rest) line e) in
      (rest_after_found (codes "free") text rest f ∙ found.0, found.1)
  by_parts None None true t f e = absurd (cc)
  by_parts None None false t f e = absurd (cc)

pub end_found : (text : List ℕ) → entry_of text ≡ End → text ≡ end_line
end_found text e = by_parts (rest_after (codes "take") text) (rest_after (codes "free") text) (bytes_eq text end_line) refl e where
  by_parts : (taken freed : Option (List ℕ)) (end : Bool) → bytes_eq text end_line ≡ end → entry_by taken freed end ≡ End → text ≡ end_line
  by_parts (Some rest) freed end is e = absurd (or_bad_no_end (take_at rest) e)
  by_parts None (Some rest) end is e = absurd (or_bad_no_end (free_at rest) e)
  by_parts None None true is e = (bytes_eq-Decides text end_line).0 is
  by_parts None None false is e = absurd (cc)

pub entry_written : (line : Line) → IsInRange line → entry_of (line_text line) ≡ Written line
entry_written (Take l) small =
    let text : line_text (Take l) ≡ codes "take" ++ take_rest l = sym (take_text l) in
    ap entry_of text
    ∙ ap (λ (o : Option (List ℕ)). entry_by o (rest_after (codes "free") (codes "take" ++ take_rest l)) (bytes_eq (codes "take" ++ take_rest l) end_line)) (rest_after_written (codes "take") (take_rest l))
    ∙ ap written_or_bad (take_written l small)
entry_written (Free layout node number) small =
    let named : Numbered = numbered layout node number in
    let text : line_text (Free layout node number) ≡ codes "free" ++ free_rest named = sym (free_text named) in
    ap entry_of text
    ∙ ap (λ (o : Option (List ℕ)). entry_by o (rest_after (codes "free") (codes "free" ++ free_rest named)) (bytes_eq (codes "free" ++ free_rest named) end_line)) (no_take (free_rest named))
    ∙ ap (λ (o : Option (List ℕ)). entry_by None o (bytes_eq (codes "free" ++ free_rest named) end_line)) (rest_after_written (codes "free") (free_rest named))
    ∙ ap written_or_bad (free_written named small)

pub end_written : entry_of end_line ≡ End
unfolding rest_after
end_written = refl
