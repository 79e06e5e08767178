-- Numbers of the OpenFlow Switch Specification, version 1.3.5, under the standard's own names; the comment over a group
-- names its section. Nothing else in this crate's definitions says one of these numbers.
use Rattle.std.specs.Prelude.{ℕ}

-- 7.1, header: the version of OpenFlow 1.3, and the type of a FLOW_MOD
abbrev pub OFP_VERSION : ℕ
OFP_VERSION = 0x04

abbrev pub OFPT_FLOW_MOD : ℕ
OFPT_FLOW_MOD = 14

-- 7.3.4.1, flow mod: the commands, and what stands for no buffer, any port and any group
abbrev pub OFPFC_ADD : ℕ
OFPFC_ADD = 0

abbrev pub OFPFC_DELETE_STRICT : ℕ
OFPFC_DELETE_STRICT = 4

abbrev pub OFP_NO_BUFFER : ℕ
OFP_NO_BUFFER = 0xffffffff

abbrev pub OFPP_ANY : ℕ
OFPP_ANY = 0xffffffff

abbrev pub OFPG_ANY : ℕ
OFPG_ANY = 0xffffffff

-- 7.2.3, match: its type, the class of its fields, and the fields of Ethernet type and IPv4 destination
abbrev pub OFPMT_OXM : ℕ
OFPMT_OXM = 1

abbrev pub OFPXMC_OPENFLOW_BASIC : ℕ
OFPXMC_OPENFLOW_BASIC = 0x8000

abbrev pub OFPXMT_OFB_ETH_TYPE : ℕ
OFPXMT_OFB_ETH_TYPE = 5

abbrev pub OFPXMT_OFB_IPV4_DST : ℕ
OFPXMT_OFB_IPV4_DST = 12

-- 7.2.4 and 7.2.5, instruction and action
abbrev pub OFPIT_APPLY_ACTIONS : ℕ
OFPIT_APPLY_ACTIONS = 4

abbrev pub OFPAT_OUTPUT : ℕ
OFPAT_OUTPUT = 0

-- the Ethernet type of IPv4
abbrev pub ETH_TYPE_IPV4 : ℕ
ETH_TYPE_IPV4 = 0x0800
