-- One growth after another.
use Rattle.std.proofs.Common.{◌≡◌, ◌⊎◌, ◌↔◌, ℕ, List, refl, ◌∙◌, subst, inl, inr}
use Rattle.least_path.specs.declared.node.Node.{Node}
use Rattle.least_path.specs.declared.reaching.Search.{Search}
use Rattle.least_path.specs.Keeps.{Kept, Grown}
use Rattle.least_path.specs.Growths.{Leading}
use Rattle.least_path.proofs.Growing.{IsGrowth}
use Rattle.least_path.proofs.Letters.{grows_same, grows_trans}

pub grown_none : (s : Search) (w : ℕ) (y : List ℕ) (D : Leading) → Kept s → ((n : Node) (u : ℕ) (z : List ℕ) → D n u z → ⊥) → Grown s s w y D
grown_none s w y D kept empty = record {
  kept = kept;
  texts = grows_same s.outputs s.outputs refl;
  settled = λ n. (λ h. h, λ h. h);
  count = refl;
  nodes = λ k n h. h;
  new_nodes = λ k n h. inl h;
  stays = λ d h. h;
  covered = λ n u z h. absurd (empty n u z h);
  sound = λ d h. inl h;
}

pub grown_then : (a b c : Search) (w : ℕ) (y : List ℕ) (D1 D2 D : Leading) → Grown a b w y D1 → Grown b c w y D2
    → ((n : Node) (u : ℕ) (z : List ℕ) → D n u z → D1 n u z ⊎ D2 n u z) → ((n : Node) (u : ℕ) (z : List ℕ) → D1 n u z → D n u z) → ((n : Node) (u : ℕ) (z : List ℕ) → D2 n u z → D n u z) → Grown a c w y D
grown_then a b c w y D1 D2 D f g split first second = record {
  kept = g.kept;
  texts = grows_trans a.outputs b.outputs c.outputs f.texts g.texts;
  settled = λ n. (λ h. (f.settled n).0 ((g.settled n).0 h), λ h. (g.settled n).1 ((f.settled n).1 h));
  count = g.count ∙ f.count;
  nodes = λ k n h. g.nodes k n (f.nodes k n h);
  new_nodes = λ k n h. elim (g.new_nodes k n h) [
    | inl i ↦ elim (f.new_nodes k n i) [ inl j ↦ inl j | inr j ↦ inr (j.0, j.1, first n j.0 j.1 j.2) ]
    | inr i ↦ inr (i.0, i.1, second n i.0 i.1 i.2)
  ];
  stays = λ d h. g.stays d (f.stays d h);
  covered = λ n u z h. elim (split n u z h) [
    | inl i ↦ elim (f.covered n u z i) [
      | inl j ↦ inl ((g.settled n).1 j)
      | inr j ↦ inr (record { weight = j.weight; output = j.output; entry = g.stays (record { node = n; weight = j.weight; output = j.output }) j.entry; below = j.below })
    ]
    | inr i ↦ g.covered n u z i
  ];
  sound = λ d h. elim (g.sound d h) [
    | inl i ↦ elim (f.sound d i) [ inl j ↦ inl j | inr j ↦ inr (j.0, j.1, first d.node j.0 j.1 j.2, j.3, j.4) ]
    | inr i ↦ inr (i.0, i.1, second d.node i.0 i.1 i.2, i.3, i.4)
  ];
}

-- the same edges by other words
pub grown_as : (a b : Search) (w : ℕ) (y : List ℕ) (D E : Leading) → Grown a b w y D → ((n : Node) (u : ℕ) (z : List ℕ) → E n u z ↔ D n u z) → Grown a b w y E
grown_as a b w y D E f same = record {
  kept = f.kept;
  texts = f.texts;
  settled = f.settled;
  count = f.count;
  nodes = f.nodes;
  new_nodes = λ k n h. elim (f.new_nodes k n h) [ inl j ↦ inl j | inr j ↦ inr (j.0, j.1, (same n j.0 j.1).1 j.2) ];
  stays = f.stays;
  covered = λ n u z h. f.covered n u z ((same n u z).0 h);
  sound = λ d h. elim (f.sound d h) [ inl j ↦ inl j | inr j ↦ inr (j.0, j.1, (same d.node j.0 j.1).1 j.2, j.3, j.4) ];
}

-- the same output by other words
pub at_text : (b c : Search) (w : ℕ) (y y' : List ℕ) {D : Leading} → y' ≡ y → Grown b c w y' D → Grown b c w y D
at_text b c w y y' {D} e g = subst (λ t. Grown b c w t D) e g

pub grown_growth : (w : ℕ) (y : List ℕ) → IsGrowth (λ a b D. Grown a b w y D)
grown_growth w y = record { joins = λ a b c D1 D2 D. grown_then a b c w y D1 D2 D; says = λ a b D E. grown_as a b w y D E }
