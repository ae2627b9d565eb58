-- That a refusal is shown where it is.
use Rattle.std.specs.Prelude.{◌≡◌, refl, ℕ, zero, suc, ◌<◌, ◌⊎◌, List, [], ◌∷◌, length, Option, Some, None, Result, Ok, Err, option_map, slice_get, IfOk, IsSomeAnd}
use Rattle.std.proofs.Common.{◌∙◌, ap, sym, subst, inl, inr, arith}
use Rattle.std.specs.Result.{IsOkAnd}
use Rattle.std.proofs.lemmas.Option.{slice_get-map}
use Rattle.sg_ast.specs.declared.token.Token.{Token}
use Rattle.sg_ast.specs.declared.token.Spanned.{Spanned}
use Rattle.sg_ast.specs.declared.token.Tokens.{Tokens}
use Rattle.sg_ast.specs.declared.kernel.KernelDecl.{KernelDecl}
use Rattle.sg_ast.specs.declared.program.Program.{Program}
use Rattle.sg_ast.specs.Stmt.{stmt_tokens}
use Rattle.sg_words.specs.declared.memory.Memory.{Memory}
use Rattle.sg_lexer.specs.declared.fault.LexFault.{LexFault}
use Rattle.sg_lexer.specs.Lexing.{tokens}
use Rattle.sg_parser.specs.declared.program.ParseFault.{ParseFault}
use Rattle.sg_parser.specs.declared.program.ParseFault.TheVariants.{Syntax}
use Rattle.sg_parser.specs.Parsed.{program_of}
use Rattle.sg_names.specs.Tables.{Tables}
use Rattle.sg_types.specs.declared.fault.TypeFault.{TypeFault}
use Rattle.sg_types.specs.declared.typed.Typed.{Typed}
use Rattle.sg_types.specs.declared.typed.TypedKernel.{TypedKernel}
use Rattle.sg_types.specs.Programs.{typed_program}
use Rattle.sg_types.specs.TypingLines.{Head}
use Rattle.sg_admit.specs.Lines.{kernel_lines}
use Rattle.sg_admit.specs.Admission.{admission}
use Rattle.sg_admit.specs.declared.admitted.AdmitFault.{AdmitFault}
use Rattle.sg_admit.specs.declared.admitted.AdmitFault.TheVariants.{Rule, BoxTooLarge}
use Rattle.sg_session.specs.declared.refusal.Refusal.{Refusal}
use Rattle.sg_session.specs.declared.refusal.Refusal.TheVariants as refusal
use Rattle.sg_session.specs.Compiling.{compiled_program}
use Rattle.sg_explain.specs.declared.place.Place.{Place}
use Rattle.sg_explain.specs.Statements.{statements_of}
use Rattle.sg_explain.specs.KernelItems.{kernel_decls}
use Rattle.sg_explain.specs.KernelParts.{loop_tokens, part_tokens}
use Rattle.sg_explain.specs.TypePlaces.{head_of, heads_of, TypeFaultsAreAtStatements}
use Rattle.sg_explain.specs.AdmitPlaces.{AdmitFaultsAreAtLines}
use Rattle.sg_explain.specs.Fronts.{IsReadUpTo}
use Rattle.sg_explain.specs.Places.{statement_place}
use Rattle.sg_explain.specs.ShownBytes.{ShownIsSpelled}
use Rattle.sg_explain.specs.Explained.{IsAtStatement, IsAtStop, Shows}
use Rattle.sg_explain.specs.steps.TokenPlaces.{IsIn}
use Rattle.sg_explain.proofs.Bound.{same_ok}
use Rattle.sg_explain.proofs.ShownLemmas.{mapped_some}
use Rattle.sg_explain.proofs.AdmitLemmas.{declared_kernel}
use Rattle.sg_explain.proofs.Origins.{IsOther, IsOfSyntax, IsOfTypes, IsOfAdmission, IsOfKernels, origin}

-- an item of one list is one of the other, at the same number
got_below : {A : Type 0} (xs : List A) (n : ℕ) → n < length xs → (x : A) × (slice_get xs n ≡ Some x)
got_below [] n below = absurd (omega (arith, below))
got_below (x ∷ xs) zero below = (x, refl)
got_below (x ∷ xs) (suc n) below = got_below xs n (omega (arith, below))

below_got : {A : Type 0} (xs : List A) (n : ℕ) (x : A) → slice_get xs n ≡ Some x → n < length xs
below_got {A} [] n x h = let no_such : ◌≡◌ {A = Option A} None (Some x) = h in absurd (cc)
below_got (y ∷ xs) zero x h = omega arith
below_got (y ∷ xs) (suc n) x h = let below = below_got xs n x h in omega (arith, below)

-- a statement by its head is one by its tokens
part_of_head : (decl : KernelDecl) (n : ℕ) (head : Head) → slice_get (heads_of decl) n ≡ Some head → (given : List Token) × (slice_get (part_tokens decl) n ≡ Some given)
part_of_head decl zero head h = (loop_tokens decl, refl)
part_of_head decl (suc n) head h =
    let statement = mapped_some head_of (slice_get (statements_of decl.body) n) head (sym (slice_get-map head_of (statements_of decl.body) n) ∙ h) in
    (stmt_tokens statement.0, slice_get-map stmt_tokens (statements_of decl.body) n ∙ ap (option_map stmt_tokens) statement.1)

-- ---- a statement of a program that bytes spell

module _ (bytes : List ℕ) (found : Tokens) (program : Program) (read : tokens bytes ≡ Ok found) (spelled : program_of found.list ≡ Ok program) (law : ShownIsSpelled) where
  at_part : (kernel number : ℕ) (decl : KernelDecl) (given : List Token) (place : Option Place) → slice_get (kernel_decls program.items) kernel ≡ Some decl
      → slice_get (part_tokens decl) number ≡ Some given → place ≡ statement_place found.list kernel number → IsSomeAnd place (IsAtStatement bytes kernel number)
  at_part kernel number decl given place of_kernel of_part is =
      let shown = law bytes found program read spelled kernel number decl given of_kernel of_part in
      let at : IsAtStatement bytes kernel number shown.place = record {
        found = found;
        program = program;
        decl = decl;
        given = given;
        read = read;
        spelled = spelled;
        of_kernel = of_kernel;
        of_part = of_part;
        head = shown.is;
        stand = shown.stand;
      } in
      subst (λ (o : Option Place). IsSomeAnd o (IsAtStatement bytes kernel number)) (sym (is ∙ shown.is)) at

-- ---- the laws, taken together

pub record Laws : Type 0 where
  pub spelled : ShownIsSpelled
  pub types : TypeFaultsAreAtStatements
  pub admission : AdmitFaultsAreAtLines

-- ---- each kind of refusal

module _ (laws : Laws) (bytes : List ℕ) where
  shown_types : (found : Tokens) (program : Program) (names : Tables) (fault : TypeFault) → tokens bytes ≡ Ok found → program_of found.list ≡ Ok program → typed_program names program ≡ Err fault
      → (place : Option Place) → IsIn found.list (refusal.Types fault) place → Shows bytes (refusal.Types fault) place
  shown_types found program names fault read spelled refused place is =
      let at = laws.types names program fault refused in
      let part = part_of_head at.decl fault.stmt at.line.head at.head in
      at_part bytes found program read spelled laws.spelled fault.kernel fault.stmt at.decl part.0 place at.kernel part.1 is

  shown_admission : (found : Tokens) (program : Program) (names : Tables) (typed : Typed) (number : ℕ) (kernel : TypedKernel) (fault : AdmitFault) → tokens bytes ≡ Ok found → program_of found.list ≡ Ok program
      → typed_program names program ≡ Ok typed → slice_get typed.kernels number ≡ Some kernel → admission kernel ≡ Err fault
      → (place : Option Place) → IsIn found.list (refusal.Admit number fault) place → Shows bytes (refusal.Admit number fault) place
  shown_admission found program names typed number kernel (Rule stmt rule) read spelled typed_is there refused place is =
      let at = laws.admission names program typed number kernel stmt rule typed_is there refused in
      let below = below_got (kernel_lines kernel) stmt at.line at.is in
      let part = got_below (part_tokens at.decl) stmt (omega (arith, below, at.parts)) in
      at_part bytes found program read spelled laws.spelled number stmt at.decl part.0 place at.of_kernel part.1 is
  shown_admission found program names typed number kernel BoxTooLarge read spelled typed_is there refused place is =
      let d = declared_kernel names program typed number kernel typed_is there in
      at_part bytes found program read spelled laws.spelled number 0 d.decl (loop_tokens d.decl) place d.of_kernel refl is

  up_to_stop : (found : Tokens) (number : ℕ) → tokens bytes ≡ Ok found → (place : Option Place) → IsSomeAnd place (IsReadUpTo found.list number) → IsSomeAnd place (IsAtStop bytes number)
  up_to_stop found number read None h = absurd h
  up_to_stop found number read (Some place) h = record { found = found; read = read; up_to = h }

  shown_syntax : (found : Tokens) (fault : ParseFault) → tokens bytes ≡ Ok found → program_of found.list ≡ Err fault
      → (place : Option Place) → IsIn found.list (refusal.Parse fault) place → Shows bytes (refusal.Parse fault) place
  shown_syntax found (Syntax number line) read refused place is = up_to_stop found number read place (is refused)

  shown_other : (why : Refusal) → IsOther why → (place : Option Place) → Shows bytes why place
  shown_other (refusal.Lex fault) other place = tt
  shown_other (refusal.Parse fault) other place = let no_such : 1 ≡ 0 = other in absurd (omega (arith, no_such))
  shown_other (refusal.Name fault) other place = tt
  shown_other (refusal.Layout number fault) other place = tt
  shown_other refusal.Words other place = tt
  shown_other (refusal.Types fault) other place = let no_such : 2 ≡ 0 = other in absurd (omega (arith, no_such))
  shown_other (refusal.Admit kernel fault) other place = let no_such : 3 ≡ 0 = other in absurd (omega (arith, no_such))
  shown_other (refusal.Command number) other place = tt
  shown_other refusal.Times other place = tt
  shown_other refusal.Image other place = tt

  -- a place in tokens is that of the refusal in the bytes
  abbrev Carries : List Spanned → Refusal → Type 0
  Carries list why = (place : Option Place) → IsIn list why place → Shows bytes why place

  carried_kernels : (why : Refusal) (k : IsOfKernels bytes why) → IsOfTypes k.names k.program why ⊎ IsOfAdmission k.names k.program why → Carries k.found.list why
  carried_kernels why k (inl t) =
      subst (Carries k.found.list) t.is (shown_types k.found k.program k.names t.fault k.read k.spelled t.refused)
  carried_kernels why k (inr a) =
      subst (Carries k.found.list) a.is (shown_admission k.found k.program k.names a.typed a.number a.kernel a.fault k.read k.spelled a.typed_is a.there a.refused)

  by_origin : (why : Refusal) (place : Option Place) → ((found : Tokens) → tokens bytes ≡ Ok found → IsIn found.list why place)
      → IsOther why ⊎ (IsOfSyntax bytes why ⊎ IsOfKernels bytes why) → Shows bytes why place
  by_origin why place is (inl other) = shown_other why other place
  by_origin why place is (inr (inl s)) = subst (Carries s.found.list) s.is (shown_syntax s.found s.fault s.read s.refused) place (is s.found s.read)
  by_origin why place is (inr (inr k)) = carried_kernels why k k.from place (is k.found k.read)

  -- a place in the tokens of a file is the place of its refusal
  pub shows : (why : Refusal) (place : Option Place) → compiled_program bytes ≡ Err why → ((found : Tokens) → tokens bytes ≡ Ok found → IsIn found.list why place) → Shows bytes why place
  shows why place refused is = by_origin why place is (origin bytes why refused)

-- an answer that keeps something is one
pub ok_alone : {A E : Type 0} (r : Result A E) (P : A → Type 0) → IsOkAnd r P → IsOkAnd r (λ x. Unit {0})
ok_alone (Ok x) P h = tt
ok_alone (Err fault) P h = absurd h

-- ---- the place in the tokens that are read

-- the tokens are those that are read
pub placed : (bytes : List ℕ) (why : Refusal) (given : Tokens) (result : Result (Option Place) Memory) → tokens bytes ≡ Ok given
    → IfOk result (λ place. (found : Tokens) → tokens bytes ≡ Ok found → found.list ≡ given.list → IsIn given.list why place)
    → IfOk result (λ place. (found : Tokens) → tokens bytes ≡ Ok found → IsIn found.list why place)
placed bytes why given (Ok place) read h =
    λ found again. subst (λ (t : Tokens). IsIn t.list why place) (same_ok {E = LexFault} given found (sym read ∙ again)) (h given read refl)
placed bytes why given (Err fault) read h = tt

-- no tokens are read
pub unread : (bytes : List ℕ) (fault : LexFault) (why : Refusal) (place : Option Place) → tokens bytes ≡ Err fault → (found : Tokens) → tokens bytes ≡ Ok found → IsIn found.list why place
unread bytes fault why place failed found read =
    let no_such : ◌≡◌ {A = Result Tokens LexFault} (Ok found) (Err fault) = sym read ∙ failed in absurd (cc)
