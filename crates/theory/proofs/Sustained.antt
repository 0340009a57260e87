-- A task that is no harder, on no fewer cores, has no larger bound. Assumes nothing.
use Rattle.std.proofs.Common.{◌≡◌, ℕ, ◌/◌, ◌<◌, ◌≤◌, cond, ◌||◌, List, [], ◌∷◌, sym, refl, ap, ◌∙◌, subst, ap₂, arith}
use native.Mathlib.Nat.{mul-add-div, zero-div}
use native.Mathlib.Bridge.{le_prop}
use mathlib.Core.Logic.Or
use mathlib.Core.Logic.{∥∥₁_map}
use Rattle.sets.specs.Sets.{sum}
use Rattle.sets.proofs.Sums.{sum_where}
use Rattle.theory.specs.Tasks.{Task, Lawful}
use Rattle.theory.specs.Paths.{Linked, Source, Sink, StartsAt, EndsAt, Complete, Numerator, length_of, volume_of, interferes, interferes_with, numerator_of}
use Rattle.theory.specs.Listing.{bound}
use Rattle.theory.specs.Laws.{NoHarder, BoundIsSustainable}
use Rattle.theory.proofs.Ancestors.{leads_same}
use Rattle.theory.proofs.Tests.{same_test}
use Rattle.theory.proofs.Quotients.{div_mono, div_less}
use Rattle.theory.proofs.Paths.{linked_start}
use Rattle.theory.proofs.Largest.{is_numerator}

module _ {t s : Task} (lawt : Lawful t) (laws : Lawful s) (easy : NoHarder t s) where
  -- the same pieces lead to the same, so the same interfere
  same_ancestor : (a b : ℕ) → t.ancestor a b ≡ s.ancestor a b
  same_ancestor a b =
      same_test (t.ancestor a b) (s.ancestor a b)
      (λ h. (laws.exact a b).1 (∥∥₁_map ((lawt.exact a b).0 h) (leads_same (λ x y e. sym (easy.edges x y) ∙ e))))
      (λ h. (lawt.exact a b).1 (∥∥₁_map ((laws.exact a b).0 h) (leads_same (λ x y e. easy.edges x y ∙ e))))

  same_interferes : (v u : ℕ) → v < t.pieces → u < t.pieces → interferes t v u ≡ interferes s v u
  same_interferes v u lv lu = cc (same_ancestor u v, same_ancestor v u, easy.order u v lu lv)

  same_with : (path : List ℕ) → Linked t path → (u : ℕ) → u < t.pieces → interferes_with t path u ≡ interferes_with s path u
  same_with [] l u h = refl
  same_with (v ∷ []) l u h = ap (λ b. b || interferes_with t [] u) (same_interferes v u l h)
  same_with (v ∷ (w ∷ rest)) l u h = ap₂ ◌||◌ (same_interferes v u (linked_start lawt v (w ∷ rest) l) h) (same_with (w ∷ rest) l.1 u h)

  -- the same paths are complete
  same_linked : (path : List ℕ) → Linked t path → Linked s path
  same_linked [] l = l
  same_linked (a ∷ []) l = subst (λ x. a < x) easy.pieces l
  same_linked (a ∷ (b ∷ rest)) l = (sym (easy.edges a b) ∙ l.0, same_linked (b ∷ rest) l.1)

  same_first : (path : List ℕ) → StartsAt t (Source t) path → StartsAt s (Source s) path
  same_first [] h = h
  same_first (a ∷ rest) h = λ b. sym (easy.edges b a) ∙ h b

  same_last : (path : List ℕ) → EndsAt t (Sink t) path → EndsAt s (Sink s) path
  same_last [] h = h
  same_last (a ∷ []) h = λ b. sym (easy.edges a b) ∙ h b
  same_last (a ∷ (b ∷ rest)) h = same_last (b ∷ rest) h

  same_complete : (path : List ℕ) → Complete t path → Complete s path
  same_complete path c = record { linked = same_linked path c.linked; first = same_first path c.first; last = same_last path c.last }

  -- they are no longer, and no more interferes with them
  shorter_path : (path : List ℕ) → Linked t path → length_of t path ≤ length_of s path
  shorter_path [] l = omega arith
  shorter_path (a ∷ []) l = omega (arith, easy.worst a l)
  shorter_path (a ∷ (b ∷ rest)) l =
      let below = shorter_path (b ∷ rest) l.1 in
      omega (arith, easy.worst a (linked_start lawt a (b ∷ rest) l))

  less_volume : (path : List ℕ) → Linked t path → volume_of t (interferes_with t path) ≤ volume_of s (interferes_with s path)
  less_volume path l =
      subst (λ n. volume_of t (interferes_with t path) ≤ sum n (λ k. cond (interferes_with s path k) (s.worst k) 0)) easy.pieces
      (sum_where t.pieces (interferes_with t path) (interferes_with s path) t.worst s.worst (λ k m e. sym (same_with path l k m) ∙ e) easy.worst)

  -- the length and the share of the rest each shrink, on the path that reaches the numerator
  sustained : (more fewer n m : ℕ) → 1 ≤ fewer → fewer ≤ more → Numerator t more n → Numerator s fewer m → n / more ≤ m / fewer
  sustained more fewer n m some l numt nums = Or.elim le_prop numt.reached (λ none. rw none.1 (omega (arith, zero-div more))) with_path
    where
      with_path : ((path : List ℕ) × Complete t path × (numerator_of t more path ≡ n)) → n / more ≤ m / fewer
      with_path p =
          let path = p.0 in
          let rest = volume_of t (interferes_with t path) in
          let rest' = volume_of s (interferes_with s path) in
          let many : 1 ≤ more = omega arith in
          omega (
            arith,
            ap (λ x. x / more) p.2,
            mul-add-div many (length_of t path) rest,
            shorter_path path p.1.linked,
            div_mono rest rest' more many (less_volume path p.1.linked),
            div_less rest' more fewer some l,
            mul-add-div some (length_of s path) rest',
            div_mono (numerator_of s fewer path) m fewer some (nums.bounds path (same_complete path p.1)),
          )

pub bound_is_sustainable : BoundIsSustainable
unfolding bound
bound_is_sustainable t s more fewer lawt laws easy some l =
    sustained lawt laws easy more fewer _ _ some l (is_numerator lawt more) (is_numerator laws fewer)
