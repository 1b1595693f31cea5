-- Runs of bytes.
use Rattle.std.proofs.Common.{◌≡◌, ◌∙◌, sym, ap, subst, refl, arith, ℕ, zero, suc, ◌<◌, ◌≤◌, Bool, true, false, List, [], ◌∷◌, ◌++◌, length, ◌-◌, take, drop, get_or}
use Rattle.text_forms.specs.Bytes.{Run, Stops}

run_more : {test : ℕ → Bool} {b : ℕ} {a x c : List ℕ} → test b ≡ true → Run test a x c → Run test (b ∷ a) (b ∷ x) c
run_more {b} h r = record { split = ap (λ v. b ∷ v) r.split; all = (h, r.all); ends = r.ends }

-- the first n bytes are of the kind, and the one after them isn't
pub run_at : (test : ℕ → Bool) (a : List ℕ) (n : ℕ) → n ≤ length a → ((k : ℕ) → k < n → test (get_or a k 0) ≡ true) → Stops test (drop n a) → Run test a (take n a) (drop n a)
run_at test a zero h all e = record { split = refl; all = tt; ends = e }
run_at test [] (suc n) h all e = absurd (omega (arith, h))
run_at test (b ∷ a) (suc n) h all e =
    run_more (all 0 (omega arith)) (run_at test a n (omega (arith, h)) (λ k l. all (suc k) (omega (arith, l))) e)

-- a text has one run of a kind at its front
pub run_once : (test : ℕ → Bool) (a x c y d : List ℕ) → Run test a x c → Run test a y d → (y ≡ x) × (d ≡ c)
run_once test a [] c [] d p q = (refl, sym q.split ∙ p.split)
run_once test a [] c (z ∷ y) d p q = absurd (let e = subst (Stops test) (sym p.split ∙ q.split) p.ends in let f : true ≡ false = sym q.all.0 ∙ e in cc)
run_once test a (z ∷ x) c [] d p q = absurd (let e = subst (Stops test) (sym q.split ∙ p.split) q.ends in let f : true ≡ false = sym p.all.0 ∙ e in cc)
run_once test a (z ∷ x) c (w ∷ y) d p q =
    let e : z ∷ (x ++ c) ≡ w ∷ (y ++ d) = sym p.split ∙ q.split in
    let g : z ≡ w = cc in
    let h : x ++ c ≡ y ++ d = cc in
    let r = run_once test (x ++ c) x c y d (record { split = refl; all = p.all.1; ends = p.ends }) (record { split = h; all = q.all.1; ends = q.ends }) in
    (ap (λ v. w ∷ v) r.0 ∙ ap (λ v. v ∷ x) (sym g), r.1)

drop_more : (a : List ℕ) (n : ℕ) → n < length a → (b : ℕ) → b ≡ get_or a n 0 → (test : ℕ → Bool) → test b ≡ false → Stops test (drop n a)
drop_more [] n h b e test f = absurd (omega (arith, h))
drop_more (c ∷ a) zero h b e test f = ap test (sym e) ∙ f
drop_more (c ∷ a) (suc n) h b e test f = drop_more a n (omega (arith, h)) b e test f

-- the loop stopped before the end
pub run_here : (test : ℕ → Bool) (a x r : List ℕ) (n : ℕ) → n < length a → ((k : ℕ) → k < n → test (get_or a k 0) ≡ true) → test (get_or a n 0) ≡ false → x ≡ take n a → r ≡ drop n a → Run test a x r
run_here test a x r n h all f d e =
    subst (λ v. Run test a x v) (sym e) (subst (λ v. Run test a v (drop n a)) (sym d) (run_at test a n (omega (arith, h)) all (drop_more a n h (get_or a n 0) refl test f)))

-- the loop came to the end
pub run_whole : (test : ℕ → Bool) (a : List ℕ) (n : ℕ) → length a ≤ n → ((k : ℕ) → k < n → test (get_or a k 0) ≡ true) → Run test a a []
run_whole test [] n h all = record { split = refl; all = tt; ends = tt }
run_whole test (b ∷ a) n h all = run_more (all 0 (omega (arith, h))) (run_whole test a (n - 1) (omega (arith, h)) (λ k l. all (suc k) (omega (arith, l))))

-- a run that is the whole text
pub run_all : (test : ℕ → Bool) (a x c : List ℕ) → Run test a x c → Run test a a [] → (x ≡ a) × (c ≡ [])
run_all test a x c r s = run_once test a a [] x c s r
