-- States that are numbered.
use Rattle.std.proofs.Common.{◌≡◌, ◌∙◌, inl, inr, sym, ap, subst, arith, ℕ, ◌≤◌, ◌<◌, List, [], ◌∷◌, length, Some}
use Rattle.std.specs.Prelude.{slice_get, drop, All}
use Rattle.std.proofs.lemmas.Bool.{cases_lt}
use Rattle.std.proofs.lemmas.Option.{slice_get-get_or}
use Rattle.std.proofs.lemmas.List.{drop_all}
use Rattle.state_table.specs.Numbers.{Keeps, Numbers}
use Rattle.state_table.proofs.Numbering.{fresh_at, keeps_refl, keeps_trans, numbers_keeps, numbers_within}
use Rattle.field_orders.specs.declared.states.State.{State}
use Rattle.field_orders.specs.declared.states.State.TheVariants.{Byte, Text, Fields}
use Rattle.field_orders.specs.Remainders.{Written, Rest, byte, bytes_then, fields_then, field_at}
use Rattle.field_orders.specs.Sources.{Means, at_end, at_byte, at_text, at_fields, Grew, Makes}

pub means_kept : (t : List Written) (old new : List State) → Keeps old new → {k : ℕ} {r : Rest} → Means t old k r → Means t new k r
means_kept t old new h (at_end {k} e) = at_end (h.kept k _ e)
means_kept t old new h (at_byte {k} e m) = at_byte (h.kept k _ e) (means_kept t old new h m)
means_kept t old new h (at_text {k} e a b m) = at_text (h.kept k _ e) a b (means_kept t old new h m)
means_kept t old new h (at_fields {k} e a m) = at_fields (h.kept k _ e) a (means_kept t old new h m)

-- the state that a new one leads to
pub meant_more : (t : List Written) (old new : List State) (e : State) (n k : ℕ) (f : Rest → Rest) → Numbers old new e k → n < length old
    → ((s : List State) (j : ℕ) (r : Rest) → slice_get s j ≡ Some e → Means t s n r → Means t s j (f r)) → Makes t old new n k f
meant_more t old new e n k f h l m =
    let keeps = numbers_keeps h in
    record {
      grew = record {
        keeps = keeps;
        meant = λ all j w. elim (cases_lt j (length old)) [
          | inl o ↦ let a = all j o in (a.0, means_kept t old new keeps a.1)
          | inr o ↦ let a = all n l in (f a.0, m new j a.0 (slice_get-get_or new j e w ∙ ap Some (fresh_at h e j o w)) (means_kept t old new keeps a.1))
        ];
      };
      within = numbers_within h;
      means = λ r a. m new k r h.stored (means_kept t old new keeps a);
    }

pub grew_refl : (t : List Written) (s : List State) → Grew t s s
grew_refl t s = record { keeps = keeps_refl s; meant = λ h. h }

pub grew_trans : (t : List Written) (a b c : List State) → Grew t a b → Grew t b c → Grew t a c
grew_trans t a b c f g = record { keeps = keeps_trans f.keeps g.keeps; meant = λ h. g.meant (f.meant h) }

pub makes_none : (t : List Written) (s : List State) (n : ℕ) → n < length s → Makes t s s n n (λ r. r)
makes_none t s n l = record { grew = grew_refl t s; within = l; means = λ r h. h }

pub makes_both : (t : List Written) (a b c : List State) (n k m : ℕ) (f g : Rest → Rest) → Makes t a b n k f → Makes t b c k m g → Makes t a c n m (λ r. g (f r))
makes_both t a b c n k m f g h i = record { grew = grew_trans t a b c h.grew i.grew; within = i.within; means = λ r x. i.means (f r) (h.means r x) }

-- what is put before a state
pub makes_byte : (t : List Written) (old new : List State) (b n k : ℕ) → Numbers old new (Byte b n) k → n < length old → Makes t old new n k (byte b)
makes_byte t old new b n k h l = meant_more t old new (Byte b n) n k (byte b) h l (λ s j r e m. at_byte e m)

pub makes_text : (t : List Written) (old new : List State) (p i n k : ℕ) → p < length t → i < length (field_at t p).text → Numbers old new (Text p i n) k → n < length old → Makes t old new n k (bytes_then (drop i (field_at t p).text))
makes_text t old new p i n k w v h l = meant_more t old new (Text p i n) n k (bytes_then (drop i (field_at t p).text)) h l (λ s j r e m. at_text e w v m)

pub makes_fields : (t : List Written) (old new : List State) (ks : List ℕ) (n k : ℕ) → All (λ i. i < length t) ks → 0 < length ks → Numbers old new (Fields ks n) k → n < length old → Makes t old new n k (fields_then ks)
makes_fields t old new [] n k a l h m = absurd (omega (arith, l))
makes_fields t old new (j ∷ ks) n k a l h m = meant_more t old new (Fields (j ∷ ks) n) n k (fields_then (j ∷ ks)) h m (λ s i r e q. at_fields e a q)

pub makes_no_fields : (t : List Written) (s : List State) (ks : List ℕ) (n : ℕ) → length ks ≡ 0 → n < length s → Makes t s s n n (fields_then ks)
makes_no_fields t s [] n e l = makes_none t s n l
makes_no_fields t s (k ∷ ks) n e l = absurd (omega (arith, e))

pub makes_no_text : (t : List Written) (s : List State) (p i n : ℕ) → length (field_at t p).text ≤ i → n < length s → Makes t s s n n (bytes_then (drop i (field_at t p).text))
makes_no_text t s p i n e l = subst (λ z. Makes t s s n n (bytes_then z)) (sym (drop_all i (field_at t p).text e)) (makes_none t s n l)
