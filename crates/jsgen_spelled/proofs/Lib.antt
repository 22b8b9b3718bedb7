-- Generated from tools/nodes/table.txt; edit that and run tools/nodes/generate.
mod Words
