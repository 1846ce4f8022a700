-- Document 02 [5], the first depth only: that it is the first entry of the full list. It is said of two calls, one for the first depth and one for the
-- list of the same section, or record, into any row; and of one, what that entry is.
use Rattle.std.specs.Prelude.{ℕ, ◌≤◌, ◌<◌, ◌≡◌, ◌↔◌, List, ℤ, pos, neg_ℤ, replicate}
use Rattle.section.specs.declared.Section.{Section}
use Rattle.section.specs.Section.{no_layer}
use Rattle.depths.specs.Depths.{kind_at, Balances}
use Rattle.depths.specs.Row.{word_at}
use Rattle.depths.specs.Answers.{ListAnswer, FirstAnswer}
use Rattle.record.specs.Record.{section_in}
use Rattle.demands.specs.Every as Every

-- x is the first depth's answer, y the list's, with the row that it leaves
pub record Heads (x : FirstAnswer) (y : ListAnswer) (after : List ℤ) : Type 0 where
  -- it is refused as the list is; where only the row is too short for the list, it is not
  pub number : (y.refusal ≡ 15 → ⊥) → x.refusal ≡ y.refusal
  pub short : y.refusal ≡ 15 → x.refusal ≡ 0
  -- so by 14 exactly where the list is, and never by 15
  pub none : (x.refusal ≡ 14) ↔ (y.refusal ≡ 14)
  pub never : x.refusal ≡ 15 → ⊥
  -- it is the first three words of every row that holds the list
  pub words : y.refusal ≡ 0 → (word_at after 0 ≡ pos x.depth) × (word_at after 1 ≡ pos x.kind) × (word_at after 2 ≡ x.moment)

-- the shallowest depth of the grid that has a kind, with that kind and its own moment
pub record Shallowest (s : Section) (x : FirstAnswer) : Type 0 where
  pub balances : Balances s (record { depth = x.depth; kind = x.kind; moment = x.moment })
  pub above : (d : ℕ) → 1 ≤ d → d < x.depth → kind_at s d ≡ 0

-- ---- the request's figures, each with the work of [6]: document 01's record 0, and a section in tension
abbrev pub plain : (b h fck fyk feq2 feq3 : ℕ) → ℤ → Section
plain b h fck fyk feq2 feq3 load = record {
  b = b;
  h = h;
  hf = 0;
  bf = 0;
  fck = fck;
  fyk = fyk;
  feq2 = feq2;
  feq3 = feq3;
  load = load;
  asw = 0;
  spacing = 0;
  count = 0;
  layers = replicate 8 no_layer;
}

abbrev pub record0 : Section
record0 = plain 1000 100 30 500 3700 4500 (pos 0)

abbrev pub in_tension : Section
in_tension = plain 1000 58 50 400 0 0 (neg_ℤ (pos 3378))

abbrev pub Gives : Section → (depth kind work : ℕ) → ℤ → Type 0
Gives s depth kind work moment =
    Every.first (λ t x. t ≡ s → x ≡ record { refusal = 0; depth = depth; kind = kind; work = work; moment = moment })

abbrev pub FirstFigures : Type 0
FirstFigures = Gives record0 14 2 1500 (pos 14476473000) × Gives in_tension 1 1 58 (neg_ℤ (pos 175816000))

pub record Request5 : Type 0 where
  pub first : Every.first (λ s x. Every.depths (λ t before y after. t ≡ s → Heads x y after))
  pub fw_first : Every.fw_first (λ r x. Every.fw_depths (λ q before y after. q ≡ r → Heads x y after))
  pub shallowest : Every.first (λ s x. x.refusal ≡ 0 → Shallowest s x)
  pub fw_shallowest : Every.fw_first (λ r x. x.refusal ≡ 0 → Shallowest (section_in r) x)
  pub figures : FirstFigures
