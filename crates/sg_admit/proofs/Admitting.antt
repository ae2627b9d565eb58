-- What is known before the rules are tested is what the rules look at, and the answer of admission from its parts.
use Rattle.std.proofs.Common.{◌≡◌, ℕ, Bool, true, false, not, ◌||◌, ◌==◌, if◌then◌else◌, nat_lt, nat_le, List, map, length, Option, Some, None, Ok, Err, sym, ap, ◌∙◌}
use Rattle.std.specs.List.{list_any, range_with_len}
use Rattle.std.proofs.lemmas.Bool.{leb-true, leb-false, lt-ltb, le-ltb}
use Rattle.sg_words.specs.Results.{fault_or}
use Rattle.std.proofs.Math.Path.{fun_ext}
use Rattle.sg_flat.specs.declared.effects.Way.{Way}
use Rattle.sg_flat.specs.declared.effects.Domain.{Domain}
use Rattle.sg_types.specs.declared.typed.TypedStmt.{TypedStmt}
use Rattle.sg_types.specs.declared.typed.TypedKernel.{TypedKernel}
use Rattle.sg_admit.specs.declared.admitted.AdmitFault.{AdmitFault}
use Rattle.sg_admit.specs.declared.admitted.AdmitFault.TheVariants.{BoxTooLarge}
use Rattle.sg_admit.specs.declared.marks.Marks.{Marks}
use Rattle.sg_admit.specs.Limits.{most_box_points}
use Rattle.sg_admit.specs.Lines.{kernel_lines}
use Rattle.sg_admit.specs.Clean.{Unclean, unclean_in}
use Rattle.sg_admit.specs.Slices.{walked_by, block_slice}
use Rattle.sg_admit.specs.Bounds.{constant_domain, box_size}
use Rattle.sg_admit.specs.Rules.{Facts, ways_in, first_way, has_own, has_acc, writes_layout, facts_of}
use Rattle.sg_admit.specs.Admission.{first_fault, turns_var, clean_vars, kept_of, box_answer, admission}
use Rattle.sg_words.specs.Spread.{bears_mark}
use Rattle.sg_admit.specs.steps.Hanging.{IsLeastGiven}
use Rattle.sg_admit.specs.steps.Noting.{AreAlike, loops_in}
use Rattle.sg_admit.specs.steps.Marked.{unclean_of, marked_facts}
use Rattle.sg_admit.proofs.Ties.{unclean_is, written_is, noted_alike, turns_is}
use Rattle.sg_admit.proofs.Asked.{layouts_alike}
use Rattle.sg_admit.proofs.Guards.{each_same}

abbrev facts_with : (ℕ → ℕ → Option Way) → (ℕ → ℕ → Bool) → (ℕ → ℕ → Bool) → (ℕ → Bool) → ℕ → Option ℕ → Unclean → Facts
facts_with first own acc written vars walked unclean = record { first = first; own = own; acc = acc; written = written; vars = vars; walked = walked; unclean = unclean }

pub facts_are : (kernel : TypedKernel) (marks : Marks) → AreAlike marks.ways (ways_in (kernel_lines kernel)) → marks.vars ≡ kernel.vars → marks.walked ≡ walked_by kernel.domain
    → IsLeastGiven marks.ways (kernel_lines kernel) marks.dirty → marked_facts marks ≡ facts_of kernel
facts_are kernel marks alike vars walked least =
    let noted = ways_in (kernel_lines kernel) in
    let unclean : unclean_of marks ≡ unclean_in (kernel_lines kernel) =
    unclean_is (kernel_lines kernel) marks.ways marks.dirty (λ layout place. noted_alike marks.ways noted alike layout place ∙ written_is (kernel_lines kernel) layout place) least in
    ap (λ (it : ℕ → ℕ → Option Way). facts_with it (has_own marks.ways) (has_acc marks.ways) (writes_layout marks.ways) marks.vars marks.walked (unclean_of marks)) (fun_ext (λ layout. fun_ext (λ place. alike.first layout place)))
    ∙ (ap (λ (it : ℕ → ℕ → Bool). facts_with (first_way noted) it (has_acc marks.ways) (writes_layout marks.ways) marks.vars marks.walked (unclean_of marks)) (fun_ext (λ layout. fun_ext (λ place. alike.own layout place)))
    ∙ (ap (λ (it : ℕ → ℕ → Bool). facts_with (first_way noted) (has_own noted) it (writes_layout marks.ways) marks.vars marks.walked (unclean_of marks)) (fun_ext (λ layout. fun_ext (λ place. alike.acc layout place)))
    ∙ (ap (λ (it : ℕ → Bool). facts_with (first_way noted) (has_own noted) (has_acc noted) it marks.vars marks.walked (unclean_of marks)) (fun_ext (λ layout. layouts_alike marks.ways noted (noted_alike marks.ways noted alike) layout))
    ∙ (ap (λ (it : ℕ). facts_with (first_way noted) (has_own noted) (has_acc noted) (writes_layout noted) it marks.walked (unclean_of marks)) vars
    ∙ (ap (λ (it : Option ℕ). facts_with (first_way noted) (has_own noted) (has_acc noted) (writes_layout noted) kernel.vars it (unclean_of marks)) walked
    ∙ ap (facts_with (first_way noted) (has_own noted) (has_acc noted) (writes_layout noted) kernel.vars (walked_by kernel.domain)) unclean)))))

module _ (kernel : TypedKernel) (marks : Marks) (are : marked_facts marks ≡ facts_of kernel) where
  same_fault : first_fault (marked_facts marks) (kernel_lines kernel) ≡ first_fault (facts_of kernel) (kernel_lines kernel)
  same_fault = ap (λ (facts : Facts). first_fault facts (kernel_lines kernel)) are

  pub refused_rule : (fault : AdmitFault) → Some fault ≡ first_fault (marked_facts marks) (kernel_lines kernel) → admission kernel ≡ Err fault
  refused_rule fault h = ap (λ (found : Option AdmitFault). fault_or found (box_answer kernel)) (sym (h ∙ same_fault))

  pub refused_box : None ≡ first_fault (marked_facts marks) (kernel_lines kernel) → (size : ℕ) → size ≡ box_size (constant_domain kernel) → nat_le size most_box_points ≡ false → admission kernel ≡ Err BoxTooLarge
  refused_box h size s large =
      ap (λ (found : Option AdmitFault). fault_or found (box_answer kernel)) (sym (h ∙ same_fault))
      ∙ (ap (λ (n : ℕ). if nat_lt most_box_points n then Err BoxTooLarge else Ok (kept_of kernel)) (sym s)
      ∙ ap (λ (b : Bool). if b then Err BoxTooLarge else Ok (kept_of kernel)) (lt-ltb most_box_points size (leb-false size most_box_points large)))

  pub accepted : None ≡ first_fault (marked_facts marks) (kernel_lines kernel) → nat_le (box_size (constant_domain kernel)) most_box_points ≡ true → (loops : List ℕ) → loops ≡ loops_in (kernel_lines kernel)
      → (clean : List Bool) → clean ≡ map (λ var. not (bears_mark marks.dirty var) || list_any (λ it. it == var) loops) (range_with_len 0 (length kernel.types))
      → (slice : List TypedStmt) → slice ≡ block_slice marks.walked (unclean_of marks) kernel.body → (domain : Domain) → domain ≡ constant_domain kernel
      → admission kernel ≡ Ok (record { kernel = kernel; clean = clean; slice = slice; domain = domain })
  accepted h small loops l clean c slice s domain d =
      ap (λ (found : Option AdmitFault). fault_or found (box_answer kernel)) (sym (h ∙ same_fault))
      ∙ (ap (λ (b : Bool). if b then Err BoxTooLarge else Ok (kept_of kernel)) (le-ltb most_box_points (box_size (constant_domain kernel)) (leb-true (box_size (constant_domain kernel)) most_box_points small))
      ∙ ap Ok (sym (ap (λ (it : List Bool). record { kernel = kernel; clean = it; slice = slice; domain = domain }) clean_is
      ∙ (ap (λ (it : List TypedStmt). record { kernel = kernel; clean = clean_vars kernel; slice = it; domain = domain }) slice_is
      ∙ ap (λ (it : Domain). record { kernel = kernel; clean = clean_vars kernel; slice = block_slice (walked_by kernel.domain) (unclean_in (kernel_lines kernel)) kernel.body; domain = it }) d))))
    where
      slice_is : slice ≡ block_slice (walked_by kernel.domain) (unclean_in (kernel_lines kernel)) kernel.body
      slice_is = s ∙ ap (λ (facts : Facts). block_slice facts.walked facts.unclean kernel.body) are

      clean_is : clean ≡ clean_vars kernel
      clean_is =
          c
          ∙ (ap (λ (unclean : Facts). map (λ var. not (unclean.unclean.vars var) || list_any (λ it. it == var) loops) (range_with_len 0 (length kernel.types))) are
          ∙ (ap (λ (its : List ℕ). map (λ var. not ((unclean_in (kernel_lines kernel)).vars var) || list_any (λ it. it == var) its) (range_with_len 0 (length kernel.types))) l
          ∙ each_same (λ var. not ((unclean_in (kernel_lines kernel)).vars var) || list_any (λ it. it == var) (loops_in (kernel_lines kernel)))
          (λ var. not ((unclean_in (kernel_lines kernel)).vars var) || list_any (λ line. turns_var var line.deed) (kernel_lines kernel))
          (λ var. ap (λ (b : Bool). not ((unclean_in (kernel_lines kernel)).vars var) || b) (turns_is (kernel_lines kernel) var)) (range_with_len 0 (length kernel.types))))
