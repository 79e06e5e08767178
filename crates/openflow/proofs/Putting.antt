-- The structures of a FLOW_MOD put field after field into a part of a frame: each is a run of stores, the bytes of its
-- table. Assumes nothing.
use mathlib.Core.Path.{◌≡◌, refl, sym, ap, ap₂, ◌∙◌}
use mathlib.Core.List.{List, [], ◌∷◌, ◌++◌, append-nil}
use Prim.Native.Nat.{ℕ, ◌+◌, ◌-◌, ◌*◌, ◌≤◌, ◌<◌}
use native.Mathlib.Omega.{arith}
use lib.ListN.{length, take, drop}
use lib.Seq.{sets, sets-eq, length-sets}
use Rattle.lists.specs.Bytes.{be}
use Rattle.lists.specs.Fields.{Field, laid_out, width_of}
use Rattle.lists.specs.Frames.{placed_whole}
use Rattle.lists.proofs.Frames.{part_back}
use Rattle.lists.proofs.Layouts.{Laid, laid_length, none_laid, then_laid, field_put, byte_put, laid_halves, laid_behind}
use Rattle.flow.specs.declared.Action.{Action}
use Rattle.flow.specs.declared.Action.TheVariants.{Remove, Set}
use Rattle.flow.specs.declared.Rule.{Rule}
use Rattle.openflow.specs.Standard.{OFP_VERSION, OFPT_FLOW_MOD, OFP_NO_BUFFER, OFPP_ANY, OFPG_ANY}
use Rattle.openflow.specs.Standard.{OFPMT_OXM, ETH_TYPE_IPV4, OFPIT_APPLY_ACTIONS, OFPAT_OUTPUT}
use Rattle.openflow.specs.Standard.{OFPXMC_OPENFLOW_BASIC, OFPXMT_OFB_ETH_TYPE, OFPXMT_OFB_IPV4_DST}
use Rattle.openflow.specs.FlowMods.{header, flow_mod, oxm, eth_type, whole_dst, masked_dst, flow_match, output}
use Rattle.openflow.specs.FlowMods.{apply_actions, match_of, command_of, instructions, length_of, bytes_of}

pub header-put : (p : List ℕ) (size xid : ℕ) {m₁ m₂ m₃ m₄ : List ℕ} → 8 ≤ length p
    → m₁ ≡ placed_whole (be 4 xid) p 4
    → m₂ ≡ placed_whole (OFP_VERSION ∷ []) m₁ 0
    → m₃ ≡ placed_whole (OFPT_FLOW_MOD ∷ []) m₂ 1
    → m₄ ≡ placed_whole (be 2 size) m₃ 2
    → m₄ ≡ sets p 0 (laid_out (header size xid))
header-put p size xid {m₁} room e₁ e₂ e₃ e₄ =
    let front : List Field = (1, OFP_VERSION) ∷ (1, OFPT_FLOW_MOD) ∷ (2, size) ∷ [] in
    let last : Laid p 4 ((4, xid) ∷ []) m₁ = field_put 4 xid 4 (none_laid p 4) refl (omega arith) e₁ in
    let long : length m₁ ≡ length p = ap length last.is ∙ length-sets p 4 (laid_out ((4, xid) ∷ [])) in
    let version = byte_put OFP_VERSION 0 (omega arith) (none_laid m₁ 0) refl (omega arith) e₂ in
    let kind = byte_put OFPT_FLOW_MOD 1 (omega arith) version refl (omega arith) e₃ in
    let whole = field_put 2 size 2 kind refl (omega arith) e₄ in
    laid_behind p front ((4, xid) ∷ []) 0 4 refl last.is whole.is

pub flow-mod-put : (p : List ℕ) (command priority : ℕ) {m₁ m₂ m₃ m₄ m₅ m₆ m₇ m₈ m₉ m₁₀ m₁₁ m₁₂ : List ℕ} → 48 ≤ length p → command < 256
    → m₁ ≡ placed_whole (be 8 0) p 8
    → m₂ ≡ placed_whole (be 8 0) m₁ 16
    → m₃ ≡ placed_whole (0 ∷ []) m₂ 24
    → m₄ ≡ placed_whole (command ∷ []) m₃ 25
    → m₅ ≡ placed_whole (be 2 0) m₄ 26
    → m₆ ≡ placed_whole (be 2 0) m₅ 28
    → m₇ ≡ placed_whole (be 2 priority) m₆ 30
    → m₈ ≡ placed_whole (be 4 OFP_NO_BUFFER) m₇ 32
    → m₉ ≡ placed_whole (be 4 OFPP_ANY) m₈ 36
    → m₁₀ ≡ placed_whole (be 4 OFPG_ANY) m₉ 40
    → m₁₁ ≡ placed_whole (be 2 0) m₁₀ 44
    → m₁₂ ≡ placed_whole (be 2 0) m₁₁ 46
    → m₁₂ ≡ sets p 8 (laid_out (flow_mod command priority))
flow-mod-put p command priority room byte e₁ e₂ e₃ e₄ e₅ e₆ e₇ e₈ e₉ e₁₀ e₁₁ e₁₂ =
    let cookie = field_put 8 0 8 (none_laid p 8) refl (omega arith) e₁ in
    let cookie_mask = field_put 8 0 16 cookie refl (omega arith) e₂ in
    let table_id = byte_put 0 24 (omega arith) cookie_mask refl (omega arith) e₃ in
    let ordered = byte_put command 25 (omega arith) table_id refl (omega arith) e₄ in
    let idle = field_put 2 0 26 ordered refl (omega arith) e₅ in
    let hard = field_put 2 0 28 idle refl (omega arith) e₆ in
    let first = field_put 2 priority 30 hard refl (omega arith) e₇ in
    let buffer = field_put 4 OFP_NO_BUFFER 32 first refl (omega arith) e₈ in
    let out_port = field_put 4 OFPP_ANY 36 buffer refl (omega arith) e₉ in
    let out_group = field_put 4 OFPG_ANY 40 out_port refl (omega arith) e₁₀ in
    let flags = field_put 2 0 44 out_group refl (omega arith) e₁₁ in
    (field_put 2 0 46 flags refl (omega arith) e₁₂).is

pub oxm-put : (p : List ℕ) (at field hasmask size : ℕ) {m₁ m₂ m₃ : List ℕ} → at + 4 ≤ length p → field * 2 + hasmask < 256 → size < 256
    → m₁ ≡ placed_whole (be 2 OFPXMC_OPENFLOW_BASIC) p at
    → m₂ ≡ placed_whole ((field * 2 + hasmask) ∷ []) m₁ (at + 2)
    → m₃ ≡ placed_whole (size ∷ []) m₂ (at + 3)
    → m₃ ≡ sets p at (laid_out (oxm field hasmask size))
oxm-put p at field hasmask size room bits byte e₁ e₂ e₃ =
    let class = field_put 2 OFPXMC_OPENFLOW_BASIC at (none_laid p at) (omega arith) (omega arith) e₁ in
    let fielded = byte_put (field * 2 + hasmask) (at + 2) (omega arith) class (omega arith) (omega arith) e₂ in
    (byte_put size (at + 3) (omega arith) fielded (omega arith) (omega arith) e₃).is

pub ethernet_put : (p : List ℕ) (size : ℕ) {m₁ m₂ m₃ m₄ : List ℕ} → 58 ≤ length p
    → m₁ ≡ placed_whole (be 2 OFPMT_OXM) p 48
    → m₂ ≡ placed_whole (be 2 size) m₁ 50
    → m₃ ≡ sets m₂ 52 (laid_out (oxm OFPXMT_OFB_ETH_TYPE 0 2))
    → m₄ ≡ placed_whole (be 2 ETH_TYPE_IPV4) m₃ 56
    → m₄ ≡ sets p 48 (laid_out ((2, OFPMT_OXM) ∷ (2, size) ∷ eth_type))
ethernet_put p size room e₁ e₂ e₃ e₄ =
    let kind = field_put 2 OFPMT_OXM 48 (none_laid p 48) refl (omega arith) e₁ in
    let sized = field_put 2 size 50 kind refl (omega arith) e₂ in
    let ethernet = then_laid (oxm OFPXMT_OFB_ETH_TYPE 0 2) 52 sized refl e₃ in
    (field_put 2 ETH_TYPE_IPV4 56 ethernet refl (omega arith) e₄).is

pub all_put : (p : List ℕ) {m₁ m₂ m₃ : List ℕ} → 64 ≤ length p
    → m₁ ≡ sets p 48 (laid_out ((2, OFPMT_OXM) ∷ (2, 10) ∷ eth_type))
    → m₂ ≡ placed_whole (be 2 0) m₁ 58
    → m₃ ≡ placed_whole (be 4 0) m₂ 60
    → m₃ ≡ sets p 48 (laid_out (flow_match eth_type))
all_put p room e₁ e₂ e₃ =
    let ethernet = then_laid ((2, OFPMT_OXM) ∷ (2, 10) ∷ eth_type) 48 (none_laid p 48) refl e₁ in
    let pad = field_put 2 0 58 ethernet refl (omega arith) e₂ in
    let padding = field_put 4 0 60 pad refl (omega arith) e₃ in
    padding.is ∙ ap (sets p 48) (sym (laid_halves ((2, OFPMT_OXM) ∷ (2, 10) ∷ eth_type) 2 4 0 []))

pub whole-put : (p : List ℕ) (prefix : ℕ) {m₁ m₂ m₃ m₄ m₅ : List ℕ} → 72 ≤ length p
    → m₁ ≡ sets p 48 (laid_out ((2, OFPMT_OXM) ∷ (2, 18) ∷ eth_type))
    → m₂ ≡ sets m₁ 58 (laid_out (oxm OFPXMT_OFB_IPV4_DST 0 4))
    → m₃ ≡ placed_whole (be 4 prefix) m₂ 62
    → m₄ ≡ placed_whole (be 2 0) m₃ 66
    → m₅ ≡ placed_whole (be 4 0) m₄ 68
    → m₅ ≡ sets p 48 (laid_out (flow_match (eth_type ++ whole_dst prefix)))
whole-put p prefix room e₁ e₂ e₃ e₄ e₅ =
    let ethernet = then_laid ((2, OFPMT_OXM) ∷ (2, 18) ∷ eth_type) 48 (none_laid p 48) refl e₁ in
    let fielded = then_laid (oxm OFPXMT_OFB_IPV4_DST 0 4) 58 ethernet refl e₂ in
    let address = field_put 4 prefix 62 fielded refl (omega arith) e₃ in
    let pad = field_put 2 0 66 address refl (omega arith) e₄ in
    let padding = field_put 4 0 68 pad refl (omega arith) e₅ in
    padding.is ∙ ap (sets p 48) (sym (laid_halves (((2, OFPMT_OXM) ∷ (2, 18) ∷ eth_type) ++ whole_dst prefix) 2 4 0 []))

pub masked_put : (p : List ℕ) (prefix mask : ℕ) {m₁ m₂ m₃ m₄ m₅ : List ℕ} → 72 ≤ length p
    → m₁ ≡ sets p 48 (laid_out ((2, OFPMT_OXM) ∷ (2, 22) ∷ eth_type))
    → m₂ ≡ sets m₁ 58 (laid_out (oxm OFPXMT_OFB_IPV4_DST 1 8))
    → m₃ ≡ placed_whole (be 4 prefix) m₂ 62
    → m₄ ≡ placed_whole (be 4 mask) m₃ 66
    → m₅ ≡ placed_whole (be 2 0) m₄ 70
    → m₅ ≡ sets p 48 (laid_out (flow_match (eth_type ++ masked_dst prefix mask)))
masked_put p prefix mask room e₁ e₂ e₃ e₄ e₅ =
    let ethernet = then_laid ((2, OFPMT_OXM) ∷ (2, 22) ∷ eth_type) 48 (none_laid p 48) refl e₁ in
    let fielded = then_laid (oxm OFPXMT_OFB_IPV4_DST 1 8) 58 ethernet refl e₂ in
    let address = field_put 4 prefix 62 fielded refl (omega arith) e₃ in
    let masked = field_put 4 mask 66 address refl (omega arith) e₄ in
    (field_put 2 0 70 masked refl (omega arith) e₅).is

pub output-put : (p : List ℕ) (at port : ℕ) {m₁ m₂ m₃ m₄ m₅ m₆ : List ℕ} → at + 16 ≤ length p
    → m₁ ≡ placed_whole (be 2 OFPAT_OUTPUT) p at
    → m₂ ≡ placed_whole (be 2 16) m₁ (at + 2)
    → m₃ ≡ placed_whole (be 4 port) m₂ (at + 4)
    → m₄ ≡ placed_whole (be 2 0) m₃ (at + 8)
    → m₅ ≡ placed_whole (be 2 0) m₄ (at + 10)
    → m₆ ≡ placed_whole (be 4 0) m₅ (at + 12)
    → m₆ ≡ sets p at (laid_out (output port))
output-put p at port room e₁ e₂ e₃ e₄ e₅ e₆ =
    let kind = field_put 2 OFPAT_OUTPUT at (none_laid p at) (omega arith) (omega arith) e₁ in
    let sized = field_put 2 16 (at + 2) kind (omega arith) (omega arith) e₂ in
    let ported = field_put 4 port (at + 4) sized (omega arith) (omega arith) e₃ in
    let most = field_put 2 0 (at + 8) ported (omega arith) (omega arith) e₄ in
    let pad = field_put 2 0 (at + 10) most (omega arith) (omega arith) e₅ in
    let padding = field_put 4 0 (at + 12) pad (omega arith) (omega arith) e₆ in
    padding.is ∙ ap (sets p at) (sym (laid_halves ((2, OFPAT_OUTPUT) ∷ (2, 16) ∷ (4, port) ∷ (2, 0) ∷ []) 2 4 0 []))

pub instruction_put : (p : List ℕ) (port : ℕ) {m₁ m₂ m₃ m₄ : List ℕ} → 24 ≤ length p
    → m₁ ≡ placed_whole (be 2 OFPIT_APPLY_ACTIONS) p 0
    → m₂ ≡ placed_whole (be 2 24) m₁ 2
    → m₃ ≡ placed_whole (be 4 0) m₂ 4
    → m₄ ≡ sets m₃ 8 (laid_out (output port))
    → m₄ ≡ sets p 0 (laid_out (apply_actions (output port)))
instruction_put p port room e₁ e₂ e₃ e₄ =
    let kind = field_put 2 OFPIT_APPLY_ACTIONS 0 (none_laid p 0) refl (omega arith) e₁ in
    let sized = field_put 2 24 2 kind refl (omega arith) e₂ in
    let padding = field_put 4 0 4 sized refl (omega arith) e₃ in
    (then_laid (output port) 8 padding refl e₄).is

-- the instruction in a part that was lent from an offset on, and the part back
pub instruction_back : (p : List ℕ) (port k : ℕ) {q : List ℕ} → k + 24 ≤ length p
    → q ≡ sets (take (length p - k) (drop k p)) 0 (laid_out (apply_actions (output port)))
    → take k p ++ (q ++ drop (length p - k) (drop k p)) ≡ sets p k (laid_out (apply_actions (output port)))
instruction_back p port k room e =
    let w = laid_out (apply_actions (output port)) in
    let long : length w ≡ 24 = laid_length (apply_actions (output port)) in
    let fit : k + length w ≤ length p = rw long room in
    part_back p w k fit e ∙ sym (sets-eq w p k fit)

-- all of a FLOW_MOD: a removal ends with its match, and a set has its instruction behind it
module _ (p : List ℕ) (number : ℕ) (r : Rule) {size command : ℕ} {m₁ m₂ m₃ : List ℕ} (e : size ≡ length_of r)
    (d : command ≡ command_of r.action) (e₁ : m₁ ≡ sets p 0 (laid_out (header size number)))
    (e₂ : m₂ ≡ sets m₁ 8 (laid_out (flow_mod command r.length)))
    (e₃ : m₃ ≡ sets m₂ 48 (laid_out (match_of r.prefix r.length))) where
  front : Laid p 0 (header size number ++ flow_mod command r.length ++ match_of r.prefix r.length) m₃
  front =
      let headed = then_laid (header size number) 0 (none_laid p 0) refl e₁ in
      let fielded = then_laid (flow_mod command r.length) 8 headed refl e₂ in
      then_laid (match_of r.prefix r.length) 48 fielded refl e₃

  -- the fields with the values that document 02 gives them
  known : (rest : List Field)
      → sets p 0 (laid_out (header size number ++ flow_mod command r.length ++ rest))
      ≡ sets p 0 (laid_out (header (length_of r) number ++ flow_mod (command_of r.action) r.length ++ rest))
  known rest =
      ap₂ (λ (n c : ℕ). sets p 0 (laid_out (header n number ++ flow_mod c r.length ++ rest))) e d

  pub removal_put : r.action ≡ Remove → m₃ ≡ sets p 0 (bytes_of number r)
  unfolding bytes_of
  removal_put a =
      front.is ∙ known (match_of r.prefix r.length)
      ∙ ap (λ (l : List Field).
      sets p 0 (laid_out (header (length_of r) number ++ flow_mod (command_of r.action) r.length ++ l)))
      (sym (append-nil (match_of r.prefix r.length))
      ∙ ap (λ (b : Action). match_of r.prefix r.length ++ instructions b) (sym a))

  pub set-put : (port k : ℕ) {m₄ : List ℕ} → r.action ≡ Set port → k ≡ 48 + width_of (match_of r.prefix r.length)
      → m₄ ≡ sets m₃ k (laid_out (apply_actions (output port))) → m₄ ≡ sets p 0 (bytes_of number r)
  unfolding bytes_of
  set-put port k a place e₄ =
      (then_laid (apply_actions (output port)) k front (omega (arith, place)) e₄).is
      ∙ known (match_of r.prefix r.length ++ apply_actions (output port))
      ∙ ap (λ (b : Action).
      sets p 0 (laid_out (header (length_of r) number ++ flow_mod (command_of r.action) r.length
      ++ match_of r.prefix r.length ++ instructions b)))
      (sym a)
