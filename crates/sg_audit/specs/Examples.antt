-- Worked verdicts.
use Rattle.std.specs.Prelude.{◌≡◌, [], ◌∷◌, codes, refl}
use Rattle.sg_layout.specs.Examples.{blocks, grid}
use Rattle.sg_journal.specs.declared.lines.Line.TheVariants.{Take, Free}
use Rattle.sg_journal.specs.Lines.{link}
use Rattle.sg_audit.specs.declared.reading.Entry.TheVariants.{Written, End, Bad}
use Rattle.sg_audit.specs.declared.verdict.Verdict.TheVariants.{Yes, No}
use Rattle.sg_audit.specs.Reading.{entries_of, texts_of, rest_after, take_at, free_at, numbered_at, number_at, numeral_at}
use Rattle.sg_audit.specs.Auditing.{audited}

three_texts : texts_of (codes "a\n\nb") ≡ codes "a\n" ∷ (codes "\n" ∷ (codes "b" ∷ []))
three_texts = refl

a_line : entries_of (codes "take 0 1 13 0 2\nend\n") ≡ Written (Take (link 0 1 13 0 2)) ∷ (End ∷ [])
unfolding rest_after take_at free_at numbered_at number_at numeral_at
a_line = refl

a_free : entries_of (codes "free 0 1 4294967295\n") ≡ Written (Free 0 1 4294967295) ∷ []
unfolding rest_after take_at free_at numbered_at number_at numeral_at
a_free = refl

-- a leading zero, a number past 32 bits, two spaces, a space at the end, no newline
bad_lines : entries_of (codes "free 0 01 3\nfree 0 1 4294967296\nfree  0 1 3\nfree 0 1 3 \nfree 0 1 3") ≡ Bad ∷ (Bad ∷ (Bad ∷ (Bad ∷ (Bad ∷ []))))
unfolding rest_after take_at free_at numbered_at number_at numeral_at
bad_lines = refl

-- pointer(i: 4) cap 2; dense(i: 4);
one_number_twice : audited (blocks ∷ []) (codes "take 0 1 3 0 0\ntake 0 1 3 0 1\nend\n") ≡ No 2
unfolding rest_after take_at free_at numbered_at number_at numeral_at
one_number_twice = refl

freed_between : audited (blocks ∷ []) (codes "take 0 1 3 0 0\nfree 0 1 3\ntake 0 1 3 0 1\nend\n") ≡ Yes
unfolding rest_after take_at free_at numbered_at number_at numeral_at
freed_between = refl

no_end : audited (blocks ∷ []) (codes "take 0 1 3 0 0\n") ≡ No 2
unfolding rest_after take_at free_at numbered_at number_at numeral_at
no_end = refl

no_place : audited (blocks ∷ []) (codes "take 0 1 19 0 0\nend\n") ≡ No 1
unfolding rest_after take_at free_at numbered_at number_at numeral_at
no_place = refl

past_the_cap : audited (blocks ∷ []) (codes "take 0 1 0 0 0\ntake 0 1 1 0 1\ntake 0 1 2 0 2\nend\n") ≡ No 3
unfolding rest_after take_at free_at numbered_at number_at numeral_at
past_the_cap = refl

-- hash(i: 4, j: 4) cap 16; pointer(i: 2, j: 2) cap 64; bitmasked(i: 8, j: 8); number 0 of the pointer stands in container 5 of the hash, whose
-- number plus one is its parent
freed_below_a_child : audited (grid ∷ []) (codes "take 0 1 5 0 3\ntake 0 2 0 6 1\nfree 0 1 5\nend\n") ≡ No 3
unfolding rest_after take_at free_at numbered_at number_at numeral_at
freed_below_a_child = refl

child_freed_before : audited (grid ∷ []) (codes "take 0 1 5 0 3\ntake 0 2 0 6 1\nfree 0 2 0\nfree 0 1 5\nend\n") ≡ Yes
unfolding rest_after take_at free_at numbered_at number_at numeral_at
child_freed_before = refl

parent_not_held : audited (grid ∷ []) (codes "take 0 2 0 6 1\nend\n") ≡ No 1
unfolding rest_after take_at free_at numbered_at number_at numeral_at
parent_not_held = refl

-- the root segment is no parent where a node above has containers
root_as_parent : audited (grid ∷ []) (codes "take 0 1 5 0 3\ntake 0 2 0 0 1\nend\n") ≡ No 2
unfolding rest_after take_at free_at numbered_at number_at numeral_at
root_as_parent = refl

two_ends : audited (blocks ∷ []) (codes "end\nend\n") ≡ No 2
unfolding rest_after take_at free_at numbered_at number_at numeral_at
two_ends = refl

nothing_there : audited (blocks ∷ []) [] ≡ No 1
nothing_there = refl
