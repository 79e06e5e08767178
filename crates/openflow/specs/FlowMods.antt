-- The FLOW_MOD of a numbered rule (document 02, N1), as the structures of OpenFlow 1.3.5 lay it out: a line for each
-- field, with its width in bytes, its number and the standard's name. What document 02 does not name is zero.
use Rattle.std.specs.Prelude.{ℕ, ◌+◌, ◌-◌, ◌*◌, ◌%◌, ◌^◌, List, [], ◌∷◌, ◌++◌, eqb}
use Rattle.answer.specs.Ask.{pick}
use Rattle.lists.specs.Fields.{Field, laid_out, width_of}
use Rattle.flow.specs.Rules.{block_size}
use Rattle.flow.specs.declared.Action.{Action}
use Rattle.flow.specs.declared.Action.TheVariants.{Remove, Set}
use Rattle.flow.specs.declared.Rule.{Rule}
use Rattle.openflow.specs.Standard.{OFP_VERSION, OFPT_FLOW_MOD, OFPFC_ADD, OFPFC_DELETE_STRICT}
use Rattle.openflow.specs.Standard.{OFP_NO_BUFFER, OFPP_ANY, OFPG_ANY, OFPMT_OXM, ETH_TYPE_IPV4}
use Rattle.openflow.specs.Standard.{OFPXMC_OPENFLOW_BASIC, OFPXMT_OFB_ETH_TYPE, OFPXMT_OFB_IPV4_DST}
use Rattle.openflow.specs.Standard.{OFPIT_APPLY_ACTIONS, OFPAT_OUTPUT}

-- 7.1, ofp_header
abbrev pub header : ℕ → ℕ → List Field
header length xid =
    (1, OFP_VERSION)  -- version
    ∷ (1, OFPT_FLOW_MOD)  -- type
    ∷ (2, length)  -- length
    ∷ (4, xid)  -- xid
    ∷ []

-- 7.3.4.1, ofp_flow_mod, from its header to its match
abbrev pub flow_mod : ℕ → ℕ → List Field
flow_mod command priority =
    (8, 0)  -- cookie
    ∷ (8, 0)  -- cookie_mask
    ∷ (1, 0)  -- table_id
    ∷ (1, command)  -- command
    ∷ (2, 0)  -- idle_timeout
    ∷ (2, 0)  -- hard_timeout
    ∷ (2, priority)  -- priority
    ∷ (4, OFP_NO_BUFFER)  -- buffer_id
    ∷ (4, OFPP_ANY)  -- out_port
    ∷ (4, OFPG_ANY)  -- out_group
    ∷ (2, 0)  -- flags
    ∷ (2, 0)  -- pad
    ∷ []

-- 7.2.3.2, the header of a field of a match; oxm_length counts the bytes behind it
abbrev pub oxm : ℕ → ℕ → ℕ → List Field
oxm field hasmask length =
    (2, OFPXMC_OPENFLOW_BASIC)  -- oxm_class
    ∷ (1, field * 2 + hasmask)  -- oxm_field in seven bits, oxm_hasmask in one
    ∷ (1, length)  -- oxm_length
    ∷ []

abbrev pub eth_type : List Field
eth_type = oxm OFPXMT_OFB_ETH_TYPE 0 2 ++ (2, ETH_TYPE_IPV4) ∷ []

-- as many leading ones as a prefix is long, and zeros after them, in 32 bits
abbrev pub mask_of : ℕ → ℕ
mask_of length = 2 ^ 32 - block_size length

-- the IPv4 destination: whole at length 32, masked below it, left out at length 0
abbrev pub whole_dst : ℕ → List Field
whole_dst prefix = oxm OFPXMT_OFB_IPV4_DST 0 4 ++ (4, prefix) ∷ []

abbrev pub masked_dst : ℕ → ℕ → List Field
masked_dst prefix mask = oxm OFPXMT_OFB_IPV4_DST 1 8 ++ (4, prefix) ∷ (4, mask) ∷ []

abbrev pub ipv4_dst : ℕ → ℕ → List Field
ipv4_dst prefix length =
    pick (eqb length 0) [] (pick (eqb length 32) (whole_dst prefix) (masked_dst prefix (mask_of length)))

-- 7.2.3.1, ofp_match: its length leaves out the zeros behind its fields, which fill it up to a multiple of eight
abbrev pub flow_match : List Field → List Field
flow_match fields =
    let length = 4 + width_of fields in
    (2, OFPMT_OXM)  -- type
    ∷ (2, length)  -- length
    ∷ fields ++ ((8 - length % 8) % 8, 0)  -- pad
    ∷ []

-- 7.2.5, ofp_action_output
abbrev pub output : ℕ → List Field
output port =
    (2, OFPAT_OUTPUT)  -- type
    ∷ (2, 16)  -- len
    ∷ (4, port)  -- port
    ∷ (2, 0)  -- max_len
    ∷ (6, 0)  -- pad
    ∷ []

-- 7.2.4, ofp_instruction_actions, with one action
abbrev pub apply_actions : List Field → List Field
apply_actions actions =
    (2, OFPIT_APPLY_ACTIONS)  -- type
    ∷ (2, 8 + width_of actions)  -- len
    ∷ (4, 0)  -- pad
    ∷ actions

-- add for a set, delete strict for a removal; a set has one instruction, a removal none
abbrev pub command_of : Action → ℕ
command_of Remove = OFPFC_DELETE_STRICT
command_of (Set port) = OFPFC_ADD

abbrev pub instructions : Action → List Field
instructions Remove = []
instructions (Set port) = apply_actions (output port)

-- the match of a prefix and its length
unfoldable pub match_of : ℕ → ℕ → List Field
match_of prefix length = flow_match (eth_type ++ ipv4_dst prefix length)

-- all behind the header: the priority is the prefix's length
abbrev pub body_of : Rule → List Field
body_of r =
    flow_mod (command_of r.action) r.length ++ match_of r.prefix r.length ++ instructions r.action

-- how many bytes the FLOW_MOD has
unfoldable pub length_of : Rule → ℕ
length_of r = width_of (header 0 0) + width_of (body_of r)

-- the FLOW_MOD of a numbered rule: its xid is the change number
abbrev pub fields_of : ℕ → Rule → List Field
fields_of number r = header (length_of r) number ++ body_of r

unfoldable pub bytes_of : ℕ → Rule → List ℕ
bytes_of number r = laid_out (fields_of number r)
