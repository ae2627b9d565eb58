-- The generated program of a number.
use Rattle.std.specs.Prelude.{◌≡◌, refl, ℕ, List, ◌++◌, codes, decimal, take, length}
use Rattle.std.specs.Fmt.{digits}

-- what stands after the number: what is declared, what the kernels do, and what is run
unfoldable pub behind_number : List ℕ
behind_number =
    codes "u;\n"
    ++ codes "layout G(i, j) {\n"
    ++ codes "  hash(i: 16, j: 16) cap 256;\n"
    ++ codes "  pointer(i: 4, j: 4) cap 4096;\n"
    ++ codes "  bitmasked(i: 16, j: 16);\n"
    ++ codes "  field mass: i32;\n"
    ++ codes "  field soft: i32;\n"
    ++ codes "}\n"
    ++ codes "layout R(k) { dense(k: 1); field total: i32; }\n"
    ++ codes "kernel scatter {\n"
    ++ codes "  for p in 0..65536 {\n"
    ++ codes "    let h = (u32(p) + S) * 2654435761u;\n"
    ++ codes "    let a = i32(h >> 22);\n"
    ++ codes "    let b = i32((h >> 12) & 1023u);\n"
    ++ codes "    mass[a, b] += 1;\n"
    ++ codes "  }\n"
    ++ codes "}\n"
    ++ codes "kernel smooth {\n"
    ++ codes "  for i, j in G {\n"
    ++ codes "    soft[i, j] = mass[i, j] * 4 + mass[i - 1, j] + mass[i + 1, j] + mass[i, j - 1] + mass[i, j + 1];\n"
    ++ codes "  }\n"
    ++ codes "}\n"
    ++ codes "kernel sum {\n"
    ++ codes "  for i, j in G {\n"
    ++ codes "    if mass[i, j] != 0 { total[0] += mass[i, j]; }\n"
    ++ codes "  }\n"
    ++ codes "}\n"
    ++ codes "run scatter; run smooth; run sum; stats G; dump total;\n"

-- the text of the program, with the number in its first line
abbrev pub generated_text : ℕ → List ℕ
generated_text number = codes "const S = " ++ decimal number ++ behind_number

for_seven : generated_text 7 ≡ codes "const S = 7" ++ behind_number
unfolding digits
for_seven = refl

for_the_greatest : take 25 (generated_text 4294967295) ≡ codes "const S = 4294967295u;\nla"
unfolding digits behind_number
for_the_greatest = refl

behind_length : length behind_number ≡ 648
unfolding behind_number
behind_length = refl
