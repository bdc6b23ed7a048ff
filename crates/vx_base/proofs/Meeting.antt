-- Two families that go on alike beyond every bound, or end alike, are the same and never fail; two step
-- machines whose tied states meet again and again, or end alike, have such families.
use Rattle.std.proofs.Common.{◌≡◌, ℕ, zero, suc, ◌+◌, ◌≤◌, List, refl, sym, ap, ◌∙◌, subst, arith}
use Rattle.vx_base.specs.Outcome.{Outcome, Goes, output_of, IsOver, IsFailure, Begins, Within, Same, NeverFails, Steady, Step, run}
use Rattle.vx_base.proofs.Same.{failure_goes_not}
use Rattle.vx_base.proofs.Following.{meets_over, goes_past, begins_end, fails_not_over, grows_to, stop_over}
use Rattle.vx_base.proofs.Runs.{Grows, Reach, run_reach, run_steady}

-- both go on with one output at bounds from n on, or both end alike
pub data MeetsAt (f g : ℕ → Outcome) (n : ℕ) : Type 0 where
  Far : (i j : ℕ) (out : List ℕ) → n ≤ i → n ≤ j → f i ≡ Goes out → g j ≡ Goes out → MeetsAt f g n
  Done : (i j : ℕ) (o : Outcome) → IsOver o → f i ≡ o → g j ≡ o → MeetsAt f g n

pub meets_back : (f g : ℕ → Outcome) (n : ℕ) → MeetsAt f g n → MeetsAt g f n
meets_back f g n (Far i j out le lo e d) = Far j i out lo le d e
meets_back f g n (Done i j o v e d) = Done j i o v d e

module _ (f g : ℕ → Outcome) (steady : Steady f) where
  over_at : (n : ℕ) (o : Outcome) → IsOver o → f n ≡ o → MeetsAt f g n → (m : ℕ) × (g m ≡ o)
  over_at n o v q (Far i j out le lo e d) = absurd (goes_past f steady n i out le e (stop_over f steady n o v q))
  over_at n o v q (Done i j p w e d) = (j, d ∙ meets_over f steady n i o p v w q e)

  output_at : (n : ℕ) → MeetsAt f g n → (m : ℕ) × Begins (output_of (f n)) (output_of (g m))
  output_at n (Far i j out le lo e d) = (j, subst (λ x. Begins (output_of (f n)) (output_of x)) (e ∙ sym d) (grows_to f steady n i le))
  output_at n (Done i j o v e d) = (j, subst (λ x. Begins (output_of (f n)) (output_of x)) (sym d) (begins_end f steady n i o v e))

  pub meeting_within : ((n : ℕ) → MeetsAt f g n) → Within f g
  meeting_within meets = record { over = λ n o v e. over_at n o v e (meets n); output = λ n. output_at n (meets n) }

  fails_not : (n : ℕ) → MeetsAt f g n → IsFailure (f n) → ⊥
  fails_not n (Far i j out le lo e d) h = goes_past f steady n i out le e (failure_goes_not (f n) h)
  fails_not n (Done i j o v e d) h = fails_not_over f steady n i o v e h

  pub meeting_safe : ((n : ℕ) → MeetsAt f g n) → NeverFails f
  meeting_safe meets n h = fails_not n (meets n) h

pub meeting_same : (f g : ℕ → Outcome) → Steady f → Steady g → ((n : ℕ) → MeetsAt f g n) → Same f g × NeverFails g
meeting_same f g sf sg meets =
    let back : (n : ℕ) → MeetsAt g f n = λ n. meets_back f g n (meets n) in
    ((meeting_within f g sf meets, meeting_within g f sg back), meeting_safe g f sg back)

-- two machines, and what ties their states at the places where they meet
module _ {S U : Type 0} (next_s : S → Step S) (out_s : S → List ℕ) (next_u : U → Step U) (out_u : U → List ℕ) (Tied : S → U → Type 0) where
  -- from tied states both end alike, or both meet again after one step or more
  pub data Meets (s : S) (u : U) : Type 0 where
    Again : (i j : ℕ) (s' : S) (u' : U) → Reach next_s (suc i) s s' → Reach next_u (suc j) u u' → Tied s' u' → Meets s u
    Ended : (i j : ℕ) (o : Outcome) → IsOver o → run next_s out_s i s ≡ o → run next_u out_u j u ≡ o → Meets s u

  module _ (grows_s : Grows next_s out_s) (grows_u : Grows next_u out_u) (meets : (s : S) (u : U) → Tied s u → Meets s u) (alike : (s : S) (u : U) → Tied s u → out_s s ≡ out_u u) where
    abbrev MeetAt : ℕ → S → U → Type 0
    MeetAt n s u = MeetsAt (λ k. run next_s out_s k s) (λ k. run next_u out_u k u) n

    then_more : (n a b : ℕ) (s s1 : S) (u u1 : U) → Reach next_s (suc a) s s1 → Reach next_u (suc b) u u1 → MeetAt n s1 u1 → MeetAt (suc n) s u
    then_more n a b s s1 u u1 rs ru (Far i j out le lo e d) =
        Far (suc a + i) (suc b + j) out (omega arith) (omega arith) (run_reach next_s out_s (suc a) i s s1 rs ∙ e) (run_reach next_u out_u (suc b) j u u1 ru ∙ d)
    then_more n a b s s1 u u1 rs ru (Done i j o v e d) =
        Done (suc a + i) (suc b + j) o v (run_reach next_s out_s (suc a) i s s1 rs ∙ e) (run_reach next_u out_u (suc b) j u u1 ru ∙ d)

    after_meeting : (n : ℕ) (s : S) (u : U) → ((t : S) (v : U) → Tied t v → MeetAt n t v) → Meets s u → MeetAt (suc n) s u
    after_meeting n s u hyp (Again i j s' u' rs ru t) = then_more n i j s s' u u' rs ru (hyp s' u' t)
    after_meeting n s u hyp (Ended i j o v e d) = Done i j o v e d

    pub meets_at : (n : ℕ) (s : S) (u : U) → Tied s u → MeetAt n s u
    meets_at zero s u t = Far 0 0 (out_s s) (omega arith) (omega arith) refl (ap Goes (sym (alike s u t)))
    meets_at (suc n) s u t = after_meeting n s u (meets_at n) (meets s u t)

    pub same_from_meeting : (s : S) (u : U) → Tied s u → Same (λ n. run next_s out_s n s) (λ n. run next_u out_u n u) × NeverFails (λ n. run next_u out_u n u)
    same_from_meeting s u t = meeting_same (λ n. run next_s out_s n s) (λ n. run next_u out_u n u) (run_steady next_s out_s grows_s s) (run_steady next_u out_u grows_u u) (λ n. meets_at n s u t)
